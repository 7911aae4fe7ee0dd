-- Laws of the sheet.
pub mod Answered
