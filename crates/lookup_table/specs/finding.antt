-- The search for an id in a table.
pub mod Find
pub mod Halving
