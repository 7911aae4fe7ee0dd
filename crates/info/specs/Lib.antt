-- The info file: its settings by places in the text, and what reading answers.
pub mod numbers
pub mod sharding_members
pub mod scale
pub mod document
pub mod Settings
pub mod Answers
