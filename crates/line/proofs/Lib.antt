pub mod Chunks
pub mod Sizes
pub mod Gathers
pub mod Legal
pub mod Levels
pub mod Digits
pub mod Units
