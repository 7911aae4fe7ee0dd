-- Laws of writing one minishard sorted.
pub mod Filling
pub mod Naming
pub mod Stepping
pub mod SortedWhole
