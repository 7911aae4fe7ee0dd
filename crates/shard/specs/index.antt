-- The indexes of a shard, and tests over their entries (RULES F1 to F5, F12).
pub mod Index
pub mod Tests
pub mod Reading
