-- The deposit card: its bytes, what it says, and that one meaning has one card.
pub mod fields
pub mod form
pub mod older_readers
pub mod Layout
pub mod Reading
pub mod Answers
pub mod Meaning
