-- Laws of the definitions.
pub mod Allowed
pub mod Before
