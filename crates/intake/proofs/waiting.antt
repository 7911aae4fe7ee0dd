-- Laws of the second buffer and of what is written from it.
pub mod Writing
pub mod Pairs
