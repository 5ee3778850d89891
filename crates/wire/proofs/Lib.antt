pub mod Wires
pub mod Writings
