-- Repair of a shard from two damaged copies.
pub mod same_listing
pub mod form
pub mod Repair
pub mod Trouble
pub mod Statement
