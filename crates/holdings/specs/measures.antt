-- The measure of a shard (RULES H1).
pub mod Measures
pub mod Answers
