-- Laws of the length of one minishard.
pub mod Walk
pub mod Lengths
