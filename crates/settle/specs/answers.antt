-- Settling (RULES U5, U6).
pub mod Answers
