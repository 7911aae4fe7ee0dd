-- The mesh manifest: its layout, what a sound one is, fields, nodes, corners.
pub mod zorder
pub mod layout
pub mod sound
pub mod Fields
pub mod fragment_sums
pub mod nodes
pub mod node_numbers
pub mod level
pub mod reals
pub mod corners
