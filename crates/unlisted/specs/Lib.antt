-- Counting the unlisted bytes of a shard (RULES U4).
pub mod ranges
pub mod chunks
pub mod stretches
pub mod rising_walk
pub mod windows
pub mod Judging
pub mod Answers
