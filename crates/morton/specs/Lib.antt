-- Volumes, grids, cells and bounds; keys by the steps and by the table.
pub mod grid
pub mod bounds
pub mod axis
pub mod batch
pub mod spread
pub mod plan
pub mod rows
pub mod Key
pub mod Turn
pub mod Answers
