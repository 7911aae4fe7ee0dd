-- The laws of the lines that `locate` prints.
pub mod Printing
