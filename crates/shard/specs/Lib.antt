-- Reading shards (RULES F1 to F15).
pub mod index
pub mod manifests
pub mod Faults
pub mod Checks
pub mod File
pub mod Sound
pub mod Items
pub mod Lists
pub mod Before
