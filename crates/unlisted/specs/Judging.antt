-- What the walk that goes with the check makes: the fault of a shard, or how many of its bytes are unlisted.
use Rattle.std.specs.Prelude.{◌≡◌, ℕ, ◌<◌, ◌≤◌, true, List, ◌≢◌}
use Rattle.sharding.specs.declared.Sharding.{Sharding}
use Rattle.sharding.specs.Specification.{minishard_count_of}
use Rattle.shard.specs.index.Index.{entry_start_of, entry_end_of}
use Rattle.shard.specs.index.Tests.{fault}
use Rattle.shard.specs.Faults.{fault_of, shard_fault}
use Rattle.unlisted.specs.declared.rising_walk.Run.{Run}
use Rattle.unlisted.specs.declared.checked_walk.Judged.{Judged}
use Rattle.unlisted.specs.declared.counting.Counted.{Counted}
use Rattle.unlisted.specs.ranges.Covered.{covered_at, unlisted_bytes}
use Rattle.unlisted.specs.rising_walk.Order.{Tells, Extends, in_part}

-- of minishard m: its fault, and where it has none the walk goes on over it
pub record Steps (spec : Sharding) (shard : ℕ) (index d : List ℕ) (m : ℕ) (run : Run) (r : Judged) : Type 0 where
  pub told : fault r.number r.position ≡ fault_of spec shard index d m
  pub sums : r.run.gaps ≤ r.run.to
  pub walk : r.number ≡ 0 → Extends (in_part true true spec d (entry_start_of index m) (entry_end_of index m)) run r.run

-- the minishards from m on and before r, of n, are empty, and r is not, unless it is n
pub record Skips (index : List ℕ) (m n r : ℕ) : Type 0 where
  pub from : m ≤ r
  pub below : r ≤ n
  pub empty : (j : ℕ) → m ≤ j → j < r → entry_start_of index j ≡ entry_end_of index j
  pub some : r < n → entry_start_of index r ≢ entry_end_of index r

-- of a shard: its fault; where it has none no minishard has one, and the walk went over all
pub record JudgedAs (spec : Sharding) (shard : ℕ) (index d : List ℕ) (r : Judged) : Type 0 where
  pub number : r.number ≡ (shard_fault spec shard index d).number
  pub position : r.position ≡ (shard_fault spec shard index d).position
  pub sums : r.run.gaps ≤ r.run.to
  pub each : r.number ≡ 0 → (m : ℕ) → m < minishard_count_of spec → (fault_of spec shard index d m).number ≡ 0
  pub tells : r.number ≡ 0 → Tells (covered_at spec index d) r.run

-- of a shard: its fault, and where it has none how many bytes are unlisted, else 0
pub record Counts (spec : Sharding) (shard : ℕ) (index d : List ℕ) (r : Counted) : Type 0 where
  pub number : r.number ≡ (shard_fault spec shard index d).number
  pub position : r.position ≡ (shard_fault spec shard index d).position
  pub count : r.number ≡ 0 → r.bytes ≡ unlisted_bytes spec index d
  pub none : (r.number ≢ 0) → r.bytes ≡ 0
