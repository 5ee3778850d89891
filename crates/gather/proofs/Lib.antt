pub mod Keeps
pub mod Joins
pub mod Slots
pub mod Serves
pub mod Counts
pub mod Lists
