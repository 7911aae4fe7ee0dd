pub mod Gathers
pub mod Marks
pub mod Passes
