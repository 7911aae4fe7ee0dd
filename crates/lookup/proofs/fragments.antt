-- Laws of the definitions.
pub mod Places
pub mod Answers
pub mod Refused
pub mod Handed
pub mod Retrieval
pub mod Lacking
pub mod Depends
