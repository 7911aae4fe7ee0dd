pub mod States
pub mod Sharing
