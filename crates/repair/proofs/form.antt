-- Laws of what is chosen of two copies.
pub mod OneMinishard
pub mod AllMinishards
