mod Faults
mod Carried
