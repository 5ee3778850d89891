pub mod Pairs
pub mod OneX
pub mod Tolerance
pub mod OneLaws
pub mod Folds
