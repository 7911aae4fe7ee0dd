pub mod Tests
pub mod Lists
pub mod Places
pub mod Wholes
pub mod Voxels
pub mod Ways
pub mod Laws
pub mod Cases
