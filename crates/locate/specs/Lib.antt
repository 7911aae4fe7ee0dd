-- What the program `locate` reads and prints, part by part.
pub mod lines
pub mod text
pub mod Reading
