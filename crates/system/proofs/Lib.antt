pub mod Pairs
pub mod Trip
