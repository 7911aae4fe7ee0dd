-- Laws of the refusals of the calls of an intake.
pub mod Passing
pub mod Tested
