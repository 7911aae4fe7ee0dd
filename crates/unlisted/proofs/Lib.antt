-- That the count of unlisted bytes is right.
pub mod Judging
pub mod Counted
