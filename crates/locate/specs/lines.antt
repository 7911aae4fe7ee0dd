-- The lines that `locate` prints.
pub mod Lines
pub mod Cells
