pub mod Zeros
pub mod Interleaved
