-- That a walk over ranges in rising order tells how many bytes lie in none.
pub mod Runs
pub mod Parts
