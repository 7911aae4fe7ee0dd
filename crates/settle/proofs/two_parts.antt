-- Laws of settling a shard of two parts.
pub mod WriteAnswers
