pub mod Spans
pub mod Chunks
