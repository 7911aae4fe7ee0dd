pub mod Answers
pub mod Composed
pub mod Passing
pub mod Agreement
pub mod Promises
pub mod WaysOut
pub mod Worked
