pub mod Judged
pub mod Offsets
pub mod Verdict
pub mod Read
