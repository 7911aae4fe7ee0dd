-- Laws of settling, and demand 3.
pub mod Refused
pub mod WriteAnswers
pub mod Demand3
