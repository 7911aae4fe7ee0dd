-- What settling relies on, and the lengths that are added up.
pub mod Settleable
