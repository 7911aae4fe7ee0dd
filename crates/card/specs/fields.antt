-- Signed numbers as 32 bits, and the fields of a deposit card as they are read.
pub mod Twos
pub mod Fields
