pub mod Following
pub mod Settings
pub mod Marks
pub mod Offers
pub mod Entered
pub mod Stands
pub mod Answers
pub mod Calls
