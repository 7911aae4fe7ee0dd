pub mod Answered
pub mod Covers
pub mod Ways
