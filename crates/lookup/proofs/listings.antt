-- Laws of the definitions.
pub mod Listings
pub mod Refused
pub mod Listed
