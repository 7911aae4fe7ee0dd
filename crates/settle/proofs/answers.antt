-- What settling answers, and of a sound shard.
pub mod Answered
pub mod Writers
