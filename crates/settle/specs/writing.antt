-- A minishard's entry in the settled shard index (RULES U1).
pub mod Entry
