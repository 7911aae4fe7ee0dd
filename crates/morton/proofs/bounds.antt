pub mod Answered
pub mod Ways
pub mod Signed
pub mod Laws
