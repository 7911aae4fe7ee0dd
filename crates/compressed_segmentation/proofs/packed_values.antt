pub mod Numbers
pub mod Packed
pub mod Entries
