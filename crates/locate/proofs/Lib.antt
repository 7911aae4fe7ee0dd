-- The laws of what `locate` hands on.
pub mod Handed
