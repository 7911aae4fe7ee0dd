pub mod Filled
pub mod Wholes
pub mod Lengths
