-- What the position of a refusal points at.
pub mod Points
