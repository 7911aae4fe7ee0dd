pub mod Entry
pub mod Places
pub mod Laws
