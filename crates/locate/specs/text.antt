-- What the program `locate` prints.
pub mod Output
pub mod Blocks
pub mod Ends
