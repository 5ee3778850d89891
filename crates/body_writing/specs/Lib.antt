pub mod Outputs
pub mod Unfit
pub mod Unfits
