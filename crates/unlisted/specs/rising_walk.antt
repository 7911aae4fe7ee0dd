-- Ranges in rising order (RULES U4).
pub mod Order
