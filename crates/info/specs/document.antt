-- What an info file says, apart from how it is written, and what the answer of its reader means.
pub mod Document
pub mod Places
pub mod Said
pub mod Used
pub mod Meaning
pub mod Worked
