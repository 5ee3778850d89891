pub mod Writes
pub mod Options
pub mod Lay
