pub mod Words
pub mod Parsing
