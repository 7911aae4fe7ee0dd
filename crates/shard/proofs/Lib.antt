-- Laws of the definitions.
pub mod Walks
pub mod Meshes
pub mod Faulted
pub mod Loops
pub mod Judged
pub mod Numbers
pub mod Passed
pub mod Split
pub mod Whole
pub mod WholeAnswers
pub mod Leads
pub mod Items
pub mod Chunks
pub mod Earlier
pub mod AfterCheck
