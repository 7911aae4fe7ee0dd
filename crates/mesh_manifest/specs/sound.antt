pub mod Verdict
pub mod Soundness
