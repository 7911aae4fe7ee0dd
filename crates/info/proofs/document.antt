pub mod Reading
pub mod Derived
pub mod Order
pub mod Held
pub mod Meaning
pub mod Worked
