-- Laws of minishards that list the same.
pub mod Items
pub mod Entries
pub mod Minishards
