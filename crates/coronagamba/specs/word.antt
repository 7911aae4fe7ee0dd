-- The border to C.
pub mod Word
