-- The totals of two sheets (RULES H3).
pub mod Totals
