-- Entries that repeat an id, for those who use this crate alone.
pub use Rattle.duplicate_ids.proofs.ids.Ids.{repeats-no, repeats-miss}
