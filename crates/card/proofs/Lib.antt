-- The laws of deposit cards.
pub mod Parsing
pub mod Composing
pub mod Judged
pub mod Meaning
