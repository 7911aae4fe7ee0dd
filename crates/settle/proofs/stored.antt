-- Laws of writing one minishard as it stands.
pub mod StoredRows
