pub mod Layout
pub mod Bits
