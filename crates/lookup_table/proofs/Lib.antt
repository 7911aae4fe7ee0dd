-- Laws of the table of a minishard.
pub mod Verdicts
pub mod ByIndex
pub mod Listed
pub mod WaysOut
pub mod Agreement
pub mod Worked
