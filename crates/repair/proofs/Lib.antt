-- Laws of repair.
pub mod Troubles
pub mod Answers
pub mod Files
pub mod Outcome
pub mod Taken
pub mod Original
pub mod Named
pub mod Promises
