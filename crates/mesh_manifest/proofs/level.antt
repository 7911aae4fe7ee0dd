pub mod Asked
pub mod Each
