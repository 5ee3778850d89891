pub mod Fields
pub mod Entries
pub mod Steps
pub mod Laws
