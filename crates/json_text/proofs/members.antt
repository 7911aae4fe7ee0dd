pub mod Items
pub mod Own
