-- Laws of runs of calls.
pub mod Appends
pub mod Contents
pub mod Standing
pub mod Handing
pub mod Keeping
pub mod Reached
pub mod Fitting
pub mod Risen
pub mod Placing
pub mod Room
pub mod Says
pub mod Laws
