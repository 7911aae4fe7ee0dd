-- What a sound shard gives to whoever adds up its counts and sizes.
use Rattle.std.specs.Prelude.{ℕ, ◌+◌, ◌*◌, ◌≤◌, ◌<◌, ◌≡◌, List, length}
use Rattle.shard.specs.index.Index.{entry_start_of, entry_end_of, sizes, most_shard_bytes}
use Rattle.unlisted.specs.ranges.Ranges.{count_in}

-- the n entries at s stand in the data, and no chunk is longer than it
pub record Sized (d : List ℕ) (s n : ℕ) : Type 0 where
  pub short : length d ≤ most_shard_bytes
  pub whole : s + 24 * n ≤ length d
  pub each : (i : ℕ) → i < n → sizes d s n i ≤ length d

-- those of minishard m, which may have none wherever its entry points
pub record SizedIn (index d : List ℕ) (m : ℕ) : Type 0 where
  pub entry : 16 * m + 16 ≤ length index
  pub ordered : entry_start_of index m ≤ entry_end_of index m
  pub some : (entry_start_of index m ≡ entry_end_of index m → ⊥) → Sized d (entry_start_of index m) (count_in index m)

-- those of n minishards
pub record SizedParts (index d : List ℕ) (n : ℕ) : Type 0 where
  pub few : n ≤ 65536
  pub each : (m : ℕ) → m < n → SizedIn index d m

-- n minishards have at most as many entries each as fit in a shard
pub record Few (index : List ℕ) (n : ℕ) : Type 0 where
  pub few : n ≤ 65536
  pub entry : (m : ℕ) → m < n → 16 * m + 16 ≤ length index
  pub ordered : (m : ℕ) → m < n → entry_start_of index m ≤ entry_end_of index m
  pub each : (m : ℕ) → m < n → count_in index m ≤ most_shard_bytes
