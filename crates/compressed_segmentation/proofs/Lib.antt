pub mod Stepwise
pub mod Shapes
pub mod Cases
