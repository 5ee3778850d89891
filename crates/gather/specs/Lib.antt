pub mod Gathering
pub mod Arriving
pub mod Tables
pub mod Watching
pub mod Model
pub mod Keeping
pub mod Serving
pub mod States
