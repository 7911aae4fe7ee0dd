-- Laws of copying items in the order of entries.
pub mod Copying
