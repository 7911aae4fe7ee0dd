-- Whole numbers in a JSON text.
pub mod Numbers
