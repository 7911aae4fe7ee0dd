-- Bytes of a text, and where white space, marks and numbers end (RFC 8259).
pub mod Bytes
pub mod Parts
pub mod Numbers
