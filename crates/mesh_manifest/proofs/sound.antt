pub mod Sounds
pub mod Ways
pub mod Judged
