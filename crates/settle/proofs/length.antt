-- Laws of the settled length.
pub mod Lengths
