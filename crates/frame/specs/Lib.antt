pub mod Frames
pub mod Groups
pub mod Marking
pub mod Model
