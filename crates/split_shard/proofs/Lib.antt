-- Laws of the calls on a pair.
pub mod Answers
pub mod Parts
pub mod Fragments
pub mod Laws
