pub mod Cases
pub mod Ids
pub mod Rises
pub mod Meaning
