-- Lookup by ranges: three calls that need numbers and small slices of a file, never the file.
pub mod Steps
pub mod Says
pub mod Ranges
