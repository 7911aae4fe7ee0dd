-- Which cells share a voxel with a box (RULES B1 to B5).
pub mod overlap
pub mod halves
