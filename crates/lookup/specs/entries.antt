-- The entries of a minishard as numbers (RULES L5).
pub mod Entries
