-- Laws of positions and bits.
pub mod Within
pub mod Counts
pub mod Words
pub mod Marks
