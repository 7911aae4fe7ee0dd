pub mod Greatest
pub mod Mild
pub mod Inside
pub mod Runs
pub mod Sure
pub mod Visited
