-- Laws of going over the ranges of a sound shard.
pub mod Covering
pub mod Walk
pub mod Stretches
