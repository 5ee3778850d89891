pub mod Sendings
pub mod Storage
pub mod Stored
pub mod Given
pub mod Cuts
pub mod Model
pub mod Wanted
