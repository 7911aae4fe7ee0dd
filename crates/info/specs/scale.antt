-- The settings of one scale, by places in the text and by the members that a walk found.
pub mod Scale
pub mod Parts
