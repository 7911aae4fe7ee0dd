-- Laws of the four calls of an intake.
pub mod Answered
pub mod Refused
