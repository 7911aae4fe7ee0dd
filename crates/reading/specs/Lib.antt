-- What a read tells of its input.
pub mod End
