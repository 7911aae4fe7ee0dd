-- Laws of writing the chunks and the start steps of one minishard as it stands.
pub mod StoredChunks
pub mod StoredStarts
