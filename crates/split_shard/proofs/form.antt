-- Laws of listing, counting and settling a pair.
pub mod Listed
pub mod Settled
pub mod Laws
