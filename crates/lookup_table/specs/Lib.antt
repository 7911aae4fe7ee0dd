-- A minishard index judged once: the table, and what is found in it.
pub mod sorting
pub mod finding
pub mod Fill
pub mod Says
pub mod Once
