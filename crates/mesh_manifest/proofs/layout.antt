pub mod Patterns
pub mod Above
pub mod Loops
