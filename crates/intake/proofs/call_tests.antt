pub mod Passing
pub mod Tested
