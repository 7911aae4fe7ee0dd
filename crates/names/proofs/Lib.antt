pub mod Texts
pub mod Sharded
