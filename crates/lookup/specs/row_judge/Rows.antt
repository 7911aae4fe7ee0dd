-- The tests 9 to 11 over a minishard index that is read alone: its bytes, `rows`, and how many bytes the file has behind the shard index, `room`,
-- are all that they need (RULES F9 to F12). In a volume there are no others.
use Rattle.std.specs.Prelude.{ℕ, ◌*◌, ◌<◌, ◌≤◌, List, [], ◌∷◌, length}
use Rattle.sharding.specs.declared.Sharding.{Sharding}
use Rattle.shard.specs.index.Index.{start_steps, sizes, end_at, most_shard_bytes}
use Rattle.shard.specs.index.Tests.{EntryTest, entry_test}
use Rattle.shard.specs.Faults.{ends_past, id_test, place_test}

-- test 11: the chunk ends past the file (RULES F11)
abbrev pub room_test : ℕ → List ℕ → ℕ → EntryTest
room_test room rows n = entry_test 11 1 (ends_past room (start_steps rows 0 n) (sizes rows 0 n))

-- those of n entries, in the order in which they run (RULES F12)
unfoldable pub row_tests : Sharding → ℕ → ℕ → ℕ → List ℕ → ℕ → List EntryTest
row_tests spec shard m room rows n = id_test rows 0 ∷ place_test spec shard m rows 0 ∷ room_test room rows n ∷ []

-- n entries that passed: behind a shard index of `base` bytes none of their chunks ends past the longest shard's bytes
pub record Passed (base : ℕ) (rows : List ℕ) (n : ℕ) : Type 0 where
  pub near : base ≤ most_shard_bytes
  pub whole : 24 * n ≤ length rows
  pub inside : (i : ℕ) → i < n → end_at (start_steps rows 0 n) (sizes rows 0 n) i ≤ most_shard_bytes
