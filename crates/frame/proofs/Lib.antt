pub mod Openings
pub mod Tries
pub mod Seals
pub mod Puts
pub mod Reasons
pub mod Bytes
pub mod Markings
