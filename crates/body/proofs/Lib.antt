pub mod Parts
pub mod Head
pub mod Laws
pub mod Padding
