-- The settled form (RULES U1 to U3), and that nothing is shorter.
pub mod Sorted
pub mod Form
pub mod Content
pub mod Before
pub mod shortest
