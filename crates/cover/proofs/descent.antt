pub mod Counts
pub mod HighBit
pub mod Frames
pub mod Axis
pub mod Cuts
pub mod Corner
pub mod Ways
