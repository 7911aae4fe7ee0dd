pub mod Raw
pub mod Writing
