-- A walk over ranges that come in rising order, as far as they do.
use Rattle.std.specs.Prelude.{◌≡◌, ℕ, ◌<◌, ◌≤◌, Bool, true, false, ◌||◌, List, ◌≢◌}
use Rattle.refusal.specs.Choice.{pick}
use Rattle.endian.specs.Range.{any_below}
use Rattle.bitmap.specs.Positions.{within, misses}
use Rattle.sharding.specs.declared.Sharding.{Sharding}
use Rattle.shard.specs.index.Index.{entry_start_of, entry_end_of, entry_count}
use Rattle.unlisted.specs.declared.rising_walk.Run.{Run}
use Rattle.unlisted.specs.ranges.Covered.{in_items}

-- `last` of a walk that met a range out of order
abbrev pub broken : ℕ
broken = 18446744073709551615

-- what a walk that met the positions of the test, in order, tells of them: none lies from `to` on, and no bound of them is below it; of the positions
-- before it the test misses as many as `gaps`, all of them before `last`
pub record Told (test : ℕ → Bool) (run : Run) : Type 0 where
  pub count : run.gaps ≡ misses test run.to
  pub full : (p : ℕ) → run.last ≤ p → p < run.to → test p ≡ true
  pub past : (p : ℕ) → run.to ≤ p → test p ≡ false
  pub short : (len : ℕ) → ((p : ℕ) → test p ≡ true → p < len) → run.to ≤ len

-- it tells so unless it met one out of order
pub record Tells (test : ℕ → Bool) (run : Run) : Type 0 where
  pub told : (run.last ≢ broken) → Told test run

-- a walk that stands at `run` goes on over the positions of the test to `next`
pub record Extends (test : ℕ → Bool) (run next : Run) : Type 0 where
  pub sums : next.gaps ≤ next.to
  pub on : (before : ℕ → Bool) → Tells before run → Tells (λ p. before p || test p) next

-- ---- parts of a shard: the items of its minishards, their indexes, or both

-- of the minishard index from s to e, a part holds the byte at p
unfoldable pub in_part : Bool → Bool → Sharding → List ℕ → ℕ → ℕ → ℕ → Bool
in_part items rows spec d s e p = in_items spec d s (entry_count s e) (pick items (entry_count s e) 0) p || within s (pick rows e s) p

-- that of minishard m does, that of one of n minishards does
unfoldable pub part_by : Bool → Bool → Sharding → List ℕ → List ℕ → ℕ → ℕ → Bool
part_by items rows spec index d p m = in_part items rows spec d (entry_start_of index m) (entry_end_of index m) p

unfoldable pub part_at : Bool → Bool → Sharding → List ℕ → List ℕ → ℕ → ℕ → Bool
part_at items rows spec index d n p = any_below n (part_by items rows spec index d p)
