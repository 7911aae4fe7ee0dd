pub mod Levels
pub mod Asked
pub mod Fragments
