-- The ranges of a shard, and its unlisted bytes (RULES U4).
pub mod Ranges
pub mod Covered
