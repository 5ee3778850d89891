pub mod Writings
pub mod Rows
pub mod Ones
pub mod Openings
pub mod Backs
pub mod Bytewise
