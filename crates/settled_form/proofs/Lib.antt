-- Laws of the settled form, and what demand 3 says of it.
pub mod Sorting
pub mod Measures
pub mod Rows
pub mod Minishard
pub mod ReadBack
pub mod Stored
pub mod SoundContent
pub mod SameContent
pub mod FormSound
pub mod Demand3
pub mod Earlier
