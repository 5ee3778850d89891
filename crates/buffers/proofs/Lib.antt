pub mod Lays
pub mod Steps
pub mod Firsts
