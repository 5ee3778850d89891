pub mod Either
pub mod Trips
pub mod Otherwise
