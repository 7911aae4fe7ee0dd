-- Counts and sizes of chunks, added up (RULES H1).
pub mod Reading
pub mod Totals
