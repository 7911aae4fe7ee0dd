-- One minishard of a settled form (RULES U1).
pub mod Writing
