pub mod Depths
pub mod Lines
pub mod Symbols
pub mod Scales
