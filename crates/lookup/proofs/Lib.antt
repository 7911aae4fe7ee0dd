-- Laws of the definitions.
pub mod Answers
pub mod Refused
pub mod Handed
pub mod Retrieval
pub mod Depends
