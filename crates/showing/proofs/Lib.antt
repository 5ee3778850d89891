pub mod Padding
