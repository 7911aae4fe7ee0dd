-- Laws of the measure.
pub mod Answered
