-- Labels inside a chunk (RULES E1 to E9): words, blocks, headers, the label of a voxel; the raw form.
pub mod Words
pub mod Layout
pub mod Labels
pub mod Steps
pub mod packed_values
pub mod block
pub mod raw_form
pub mod unpacking
