-- One minishard of a settled form, sorted by id (RULES U3).
pub mod Reordered
