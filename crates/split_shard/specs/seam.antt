-- The earlier two-file edition of a shard (RULES P1, P4, P5).
pub mod Pair
pub mod Range
