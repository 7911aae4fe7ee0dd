pub mod Box
pub mod Halving
