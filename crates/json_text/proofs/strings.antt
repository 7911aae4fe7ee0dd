pub mod Characters
pub mod Naming
pub mod Unescaping
pub mod Encoded
pub mod Steps
