pub mod Ways
pub mod Entry
