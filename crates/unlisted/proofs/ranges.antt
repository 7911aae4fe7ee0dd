-- Laws of the ranges of a shard.
pub mod Meaning
