-- What the vectors are.
pub mod Vectors
