-- The tests of a mesh minishard's manifests (RULES M10).
pub mod Each
pub mod Mesh
