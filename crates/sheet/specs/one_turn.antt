-- The program `sheet` (RULES H5).
pub mod Turns
