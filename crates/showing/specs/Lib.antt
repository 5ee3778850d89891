pub mod Identifiers
pub mod Texts
