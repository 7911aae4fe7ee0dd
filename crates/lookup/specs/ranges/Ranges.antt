-- What is promised of the three calls together.
use Rattle.std.specs.Prelude.{◌≡◌, ℕ, ◌+◌, ◌%◌, ◌<◌, ◌≤◌, false, List, length}
use Rattle.sharding.specs.declared.Sharding.{Sharding}
use Rattle.sharding.specs.Specification.{is_mesh}
use Rattle.lookup.specs.declared.id_search.LookupAnswer.{LookupAnswer}
use Rattle.lookup.specs.declared.id_search.LookupAnswer.TheVariants.{Found, Refused, Faulty}
use Rattle.lookup.specs.Find.{lookup_answer, part_bytes}
use Rattle.lookup.specs.ranges.Steps.{entry_range, index_range, chunk_range}

-- one call after the other: where a range was named the next call answers, else the refusal stands
abbrev pub and_then : LookupAnswer → LookupAnswer → LookupAnswer
and_then (Found start n) next = next
and_then (Refused number) next = Refused number
and_then (Faulty number position) next = Faulty number position

-- of a volume: the length that is given is that of the file f, and the slices handed in are its bytes at the ranges that the calls named (`part_bytes`: none
-- where a call refused)
pub record Handed (spec : Sharding) (shard id len : ℕ) (f entry rows : List ℕ) : Type 0 where
  pub volume : is_mesh spec ≡ false
  pub size : length f ≡ len
  pub first : entry ≡ part_bytes (entry_range spec shard id len) f
  pub second : rows ≡ part_bytes (index_range spec shard id len entry) f

-- what then holds
pub record AsLookup (spec : Sharding) (shard id len : ℕ) (f entry rows : List ℕ) : Type 0 where
  -- the chain of the three answers is exactly the plain lookup's answer on the file
  pub chain : and_then (entry_range spec shard id len) (and_then (index_range spec shard id len entry) (chunk_range spec shard id len entry rows)) ≡ lookup_answer spec shard f id
  -- and so is the third answer alone
  pub third : chunk_range spec shard id len entry rows ≡ lookup_answer spec shard f id
  -- a refusal of the first or of the second call is the plain lookup's
  pub first_refused : (k : ℕ) → entry_range spec shard id len ≡ Refused k → lookup_answer spec shard f id ≡ Refused k
  pub second_refused : (k : ℕ) → index_range spec shard id len entry ≡ Refused k → lookup_answer spec shard f id ≡ Refused k
  pub second_faulty : (k p : ℕ) → index_range spec shard id len entry ≡ Faulty k p → lookup_answer spec shard f id ≡ Faulty k p
  -- no slice has the wrong length
  pub right_slices : chunk_range spec shard id len entry rows ≡ Refused 31 → ⊥

-- whatever slices are handed in: each range that is named lies within a file of that length; the first has 16 bytes, the second whole entries of 24, at
-- least one
pub record RangesWithin (spec : Sharding) (shard id len : ℕ) (entry rows : List ℕ) : Type 0 where
  pub first : (start n : ℕ) → entry_range spec shard id len ≡ Found start n → (start + 16 ≤ len) × (n ≡ 16)
  pub second : (start n : ℕ) → index_range spec shard id len entry ≡ Found start n → (start + n ≤ len) × (0 < n) × (n % 24 ≡ 0)
  pub third : (start n : ℕ) → chunk_range spec shard id len entry rows ≡ Found start n → start + n ≤ len
  -- and so do the numbers that a fault's position points at
  pub second_fault : (k p : ℕ) → index_range spec shard id len entry ≡ Faulty k p → p + 16 ≤ len
  pub third_fault : (k p : ℕ) → chunk_range spec shard id len entry rows ≡ Faulty k p → p + 8 ≤ len

-- a mesh is refused with 1 by each call, whatever it is given
pub record MeshRefused (spec : Sharding) (shard id len : ℕ) (entry rows : List ℕ) : Type 0 where
  pub first : entry_range spec shard id len ≡ Refused 1
  pub second : index_range spec shard id len entry ≡ Refused 1
  pub third : chunk_range spec shard id len entry rows ≡ Refused 1
