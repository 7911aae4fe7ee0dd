-- Laws of whether a minishard may be written as it stands.
pub mod Climbing
