-- Laws of the ranges of shards and of settled forms: a form has no unlisted byte, and nothing is shorter.
pub mod Listed
pub mod Overlaps
pub mod Slots
pub mod Measured
pub mod Shortest
pub mod Worked
