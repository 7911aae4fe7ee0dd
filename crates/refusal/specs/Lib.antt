-- The table's numbers, checks in their order, and what they decide.
pub mod Choice
pub mod Table
pub mod Checks
pub mod Answers
pub mod Result
pub mod Buffer
