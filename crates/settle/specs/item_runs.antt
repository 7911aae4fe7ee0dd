-- Items in the order of entries (RULES U3).
pub mod Named
