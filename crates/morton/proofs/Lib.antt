pub mod Answered
pub mod From
pub mod Lengths
pub mod Turns
pub mod Ways
pub mod Laws
pub mod Cases
