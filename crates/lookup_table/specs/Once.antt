-- What is promised of the two calls together: a minishard index is judged once, and each lookup in it then is a search in the table.
use Rattle.std.specs.Prelude.{◌≡◌, ℕ, ◌*◌, ◌<◌, List, length, take, ◌≢◌}
use Rattle.sharding.specs.declared.Sharding.{Sharding}
use Rattle.sharding.specs.placement.Place.{shard_of, minishard_of}
use Rattle.lookup.specs.declared.id_search.LookupAnswer.{LookupAnswer}
use Rattle.lookup.specs.declared.id_search.LookupAnswer.TheVariants as lookup
use Rattle.lookup_table.specs.finding.Find.{searched, Rises, Finds}
use Rattle.refusal.specs.declared.CountAnswer.TheVariants.{Count, Refused, Faulty}
use Rattle.lookup_table.specs.Fill.{count_in, fill_answer, fill_left}

-- two ids of one shard and minishard
pub record Together (spec : Sharding) (id other : ℕ) : Type 0 where
  pub shard : shard_of spec other ≡ shard_of spec id
  pub minishard : minishard_of spec other ≡ minishard_of spec id

-- what holds of what `fill_table` answered and left for `id`, where `answer` is how a lookup answers an id from the same bytes. It is proved of the third call of a
-- lookup by ranges, whatever slices are handed in, and of the plain lookup on a file f of that length, whose bytes at the ranges are `entry` and
-- `rows` (`Handed` of crates/lookup/specs/ranges/Ranges.antt): proofs/Agreement.antt, `once_as_ranges` and `once_as_lookup`
pub record Once (answer : ℕ → LookupAnswer) (spec : Sharding) (shard id len : ℕ) (entry rows out : List ℕ) : Type 0 where
  -- filled with n entries: those are searched, by rising id
  pub whole : (n : ℕ) → fill_answer spec shard id len entry rows out ≡ Count n
      → (searched (fill_left spec shard id len entry rows out) n ≡ n) × Rises (fill_left spec shard id len entry rows out) n
  -- and what `find_in_table` answers, for an id of that shard and minishard, is exactly that answer, 12 included
  pub finds : (n : ℕ) → fill_answer spec shard id len entry rows out ≡ Count n → (other : ℕ) → Together spec id other → (r : LookupAnswer)
      → Finds (fill_left spec shard id len entry rows out) (searched (fill_left spec shard id len entry rows out) n) other r → r ≡ answer other
  -- so it is in a copy of the table, whatever stands behind the three numbers of each entry
  pub copied : (n : ℕ) → fill_answer spec shard id len entry rows out ≡ Count n → (table : List ℕ) → take (3 * n) table ≡ take (3 * n) (fill_left spec shard id len entry rows out)
      → (other : ℕ) → Together spec id other → (r : LookupAnswer) → Finds table (searched table n) other r → r ≡ answer other
  -- a refusal but for 13 is that of each such id, with its position
  pub refused : (k : ℕ) → fill_answer spec shard id len entry rows out ≡ Refused k → (k ≢ 13) → (other : ℕ) → Together spec id other → answer other ≡ lookup.Refused k
  pub faulty : (k p : ℕ) → fill_answer spec shard id len entry rows out ≡ Faulty k p → (other : ℕ) → Together spec id other → answer other ≡ lookup.Faulty k p
  -- 13 is given only where `out` is too short
  pub short : fill_answer spec shard id len entry rows out ≡ Refused 13 → length out < 3 * count_in entry
