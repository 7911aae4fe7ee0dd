-- JSON text: the grammar as it is computed, and by the rules of RFC 8259.
pub mod tokens
pub mod characters
pub mod strings
pub mod members
pub mod Grammar
pub mod Rfc
