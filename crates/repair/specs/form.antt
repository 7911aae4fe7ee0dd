-- What is chosen of two copies of a shard.
pub mod Chosen
pub mod Choosing
