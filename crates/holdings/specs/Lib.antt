-- The yearly holdings sheet (RULES H2, H3).
pub mod chunk_sums
pub mod measures
pub mod one_shard
pub mod totals
pub mod Answers
