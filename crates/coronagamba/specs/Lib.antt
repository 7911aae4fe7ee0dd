-- The border to C: the answer word, and what each exported function gives and writes.
pub mod word
pub mod Version
pub mod Specification
pub mod Places
pub mod Cells
pub mod Shards
pub mod Pairs
pub mod Sheets
pub mod Manifests
pub mod Cards
pub mod Intakes
pub mod Labels
