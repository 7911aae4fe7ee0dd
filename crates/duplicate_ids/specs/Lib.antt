-- Ids as sums of steps, and which id stands twice.
pub mod ids
pub mod heapsort
pub mod passes
pub mod filter
pub mod Twice
