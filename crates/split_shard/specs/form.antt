-- Listing, unlisted bytes and settling of the earlier two-file edition (RULES P2).
pub mod Answers
