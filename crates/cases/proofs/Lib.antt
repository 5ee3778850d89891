mod Drawn
mod Lengths
mod Joining
