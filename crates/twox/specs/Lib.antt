pub mod Levels
pub mod TwoX
pub mod Apart
pub mod Gaps
pub mod Runs
pub mod Table
pub mod TwoLaws
