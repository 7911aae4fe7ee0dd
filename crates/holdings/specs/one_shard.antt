-- The rows of the yearly holdings sheet (RULES H2).
pub mod Sheet
