-- The listing of a minishard (RULES L5, L6).
pub mod Listing
pub mod Triples
