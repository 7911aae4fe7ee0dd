-- The second buffer of an intake (RULES N1).
pub mod Held
