pub mod Counting
pub mod Bits
pub mod Boxes
pub mod Missing
pub mod Halving
pub mod Ways
