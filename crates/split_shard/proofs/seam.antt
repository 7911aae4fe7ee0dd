-- Laws of pairs and of their ranges.
pub mod Pairs
pub mod Refusals
pub mod Ranges
