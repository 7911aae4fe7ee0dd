-- Laws of the definitions.
pub mod Entries
pub mod Reading
