-- Strings of a JSON text: where they end, and what they say once escapes are undone.
pub mod Chars
pub mod Names
pub mod Unescaped
