pub mod Chunked
pub mod Apart
pub mod Cases
