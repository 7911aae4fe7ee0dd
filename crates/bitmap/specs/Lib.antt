-- Positions and maps of them.
pub mod window
pub mod visited
pub mod Positions
pub mod Bits
