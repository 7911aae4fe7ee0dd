-- Laws of writing a settled form.
pub mod WriteWhole
