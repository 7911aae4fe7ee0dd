-- Lookup in a shard (RULES L1 to L4).
pub mod id_search
pub mod chosen_minishard
pub mod row_judge
pub mod ranges
pub mod entries
pub mod listings
pub mod fragments
pub mod Find
pub mod Lookups
