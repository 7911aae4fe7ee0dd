-- When two minishards list the same.
pub mod Alike
pub mod Walk
