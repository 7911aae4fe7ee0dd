pub mod Spreading
pub mod Entries
pub mod Bytes
