-- The laws of what `locate` prints.
pub mod Printing
pub mod Joining
pub mod Worked
