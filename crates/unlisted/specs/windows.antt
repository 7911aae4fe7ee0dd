-- Windows of the data (RULES U4).
pub mod Windows
