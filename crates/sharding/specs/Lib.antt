-- The sharding specification.
pub mod placement
pub mod batch
pub mod Specification
pub mod Before
