pub mod Wire
pub mod Writing
