-- What a sound shard gives to whoever goes over its ranges: all of them lie within the data.
use Rattle.std.specs.Prelude.{◌≡◌, ℕ, ◌+◌, ◌*◌, ◌<◌, ◌≤◌, true, List, length, ◌≢◌}
use Rattle.sharding.specs.declared.Sharding.{Sharding}
use Rattle.sharding.specs.Specification.{allowed, minishard_count_of}
use Rattle.shard.specs.index.Index.{entry_start_of, entry_end_of, entry_count, start_steps, sizes, start_at, end_at, most_shard_bytes}
use Rattle.shard.specs.Items.{Led}

-- the n entries at s, and their chunks with their leads
pub record Ranged (spec : Sharding) (d : List ℕ) (s n : ℕ) : Type 0 where
  pub short : length d ≤ most_shard_bytes
  pub whole : s + 24 * n ≤ length d
  pub inside : (i : ℕ) → i < n → end_at (start_steps d s n) (sizes d s n) i ≤ length d
  pub led : (i : ℕ) → i < n → Led spec d (start_at (start_steps d s n) (sizes d s n) i) (sizes d s n i)

-- those of minishard m and its index, which may be empty wherever its entry points
pub record RangedIn (spec : Sharding) (index d : List ℕ) (m : ℕ) : Type 0 where
  pub entry : 16 * m + 16 ≤ length index
  pub ordered : entry_start_of index m ≤ entry_end_of index m
  pub ends : (entry_start_of index m ≢ entry_end_of index m) → entry_end_of index m ≤ length d
  pub some : (entry_start_of index m ≢ entry_end_of index m) → Ranged spec d (entry_start_of index m) (entry_count (entry_start_of index m) (entry_end_of index m))

-- those of a shard
pub record RangedShard (spec : Sharding) (index d : List ℕ) : Type 0 where
  pub permitted : allowed spec ≡ true
  pub short : length d ≤ most_shard_bytes
  pub each : (m : ℕ) → m < minishard_count_of spec → RangedIn spec index d m
