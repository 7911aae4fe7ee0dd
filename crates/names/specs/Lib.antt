-- Numbers as text, the names of chunks and of shard files.
pub mod digits
pub mod chunks
pub mod Shards
