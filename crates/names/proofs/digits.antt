pub mod Numerals
pub mod Signing
