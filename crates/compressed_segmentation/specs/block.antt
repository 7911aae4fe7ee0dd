pub mod Voxels
pub mod Checks
