-- What a sound minishard gives to whoever reads its entries, once it is judged: all of them, and all of their chunks, stand in the data.
use Rattle.std.specs.Prelude.{ℕ, ◌+◌, ◌*◌, ◌<◌, ◌≤◌, List, length, ◌≢◌}
use Rattle.shard.specs.index.Index.{entry_start_of, entry_end_of, entry_count, start_steps, sizes, end_at, most_shard_bytes}

-- the n entries at s of the data d, behind a shard index of `base` bytes
pub record Readable (base : ℕ) (d : List ℕ) (s n : ℕ) : Type 0 where
  pub near : base ≤ most_shard_bytes
  pub short : length d ≤ most_shard_bytes
  pub whole : s + 24 * n ≤ length d
  pub inside : (i : ℕ) → i < n → end_at (start_steps d s n) (sizes d s n) i ≤ length d

-- those of minishard m, which may have none wherever its entry points
pub record ReadableIn (index d : List ℕ) (m : ℕ) : Type 0 where
  pub entry : 16 * m + 16 ≤ length index
  pub ordered : entry_start_of index m ≤ entry_end_of index m
  pub some : (entry_start_of index m ≢ entry_end_of index m) → Readable (length index) d (entry_start_of index m) (entry_count (entry_start_of index m) (entry_end_of index m))
