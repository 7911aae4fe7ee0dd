-- Settling: what it answers, what it leaves, and the parts of its writers.
pub mod minishard_length
pub mod item_runs
pub mod sorted
pub mod length
pub mod writing
pub mod answers
