pub mod Ranges
pub mod Little
pub mod Holds
pub mod Paste
pub mod Mapped
pub mod Part
pub mod Buffer
pub mod Signs
