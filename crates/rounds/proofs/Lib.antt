mod Making
mod Rounding
