pub mod Ahead
pub mod Turns
pub mod Steps
pub mod Agree
pub mod Deeper
pub mod Encoded
