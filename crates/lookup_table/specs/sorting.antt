-- A table of entries, and what the parts of its sort make.
pub mod Table
pub mod Layout
