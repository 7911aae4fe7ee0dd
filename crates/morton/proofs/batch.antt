pub mod Threes
pub mod Each
