pub mod Cover
pub mod Meaning
pub mod Marked
