pub mod Stores
pub mod Givens
pub mod Rules
pub mod Pieces
pub mod Wants
