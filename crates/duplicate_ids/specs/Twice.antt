-- An id that stands twice in a minishard.
unfoldable pub use Rattle.duplicate_ids.specs.ids.Ids.{id_at, repeats, first_twice}
