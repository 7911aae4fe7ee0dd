-- What an intake makes of what is delivered to it (RULES N6, N7).
pub mod Delivered
pub mod Runs
pub mod Says
