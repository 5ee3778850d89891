pub mod Causes
pub mod Scans
pub mod Backs
pub mod Spans
