-- Laws of the definitions.
pub mod Tests
pub mod Tally
