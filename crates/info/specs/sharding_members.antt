-- The names of members and texts that they may hold, and what single values say.
pub mod Words
pub mod Values
