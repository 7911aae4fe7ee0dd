-- Laws of counts and sizes, added up.
pub mod Counting
