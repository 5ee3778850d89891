pub mod Histories
pub mod Sightings
pub mod Pasts
pub mod Reaching
pub mod Promises
pub mod Witness
