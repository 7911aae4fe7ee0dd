-- The two-file edition: answers as of the joined file, with 23 before them; byte ranges.
pub mod held_range
pub mod seam
pub mod Answers
pub mod form
