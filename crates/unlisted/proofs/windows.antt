-- That windows of the data tell how many bytes lie in no range.
pub mod Noting
