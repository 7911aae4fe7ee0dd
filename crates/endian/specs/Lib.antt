-- Numbers as bytes, and bytes at a place.
pub mod Range
pub mod Little
pub mod Place
