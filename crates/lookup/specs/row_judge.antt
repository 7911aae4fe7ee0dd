-- A minishard index that is read alone, without the file around it.
pub mod Rows
