-- The ranges of a shard: the chunks that it lists, what is kept unlisted right before each, and its minishard indexes (RULES U4).
-- Positions count from the end of the shard index, as starts do: position p is byte `length index + p` of the file.
use Rattle.std.specs.Prelude.{ℕ, ◌-◌, ◌<◌, ◌≤◌, List, length}
use Rattle.sharding.specs.declared.Sharding.{Sharding}
use Rattle.sharding.specs.Specification.{minishard_count_of}
use Rattle.shard.specs.index.Index.{entry_start_of, entry_end_of, entry_count, start_steps, sizes, start_at, end_at}
use Rattle.shard.specs.Items.{leads}

-- which one: the chunk of entry i of minishard m, that chunk's lead (the fragments of a manifest, as one run), or the minishard index of minishard m
pub data Range : Type 0 where
  chunk_range : ℕ → ℕ → Range
  lead_range : ℕ → ℕ → Range
  index_range : ℕ → Range

-- how many entries minishard m has
abbrev pub count_in : List ℕ → ℕ → ℕ
count_in index m = entry_count (entry_start_of index m) (entry_end_of index m)

-- where the chunk of its entry i begins and ends, and how long that chunk's lead is
abbrev pub chunk_start : List ℕ → List ℕ → ℕ → ℕ → ℕ
chunk_start index d m i = start_at (start_steps d (entry_start_of index m) (count_in index m)) (sizes d (entry_start_of index m) (count_in index m)) i

abbrev pub chunk_end : List ℕ → List ℕ → ℕ → ℕ → ℕ
chunk_end index d m i = end_at (start_steps d (entry_start_of index m) (count_in index m)) (sizes d (entry_start_of index m) (count_in index m)) i

abbrev pub lead_in : Sharding → List ℕ → List ℕ → ℕ → ℕ → ℕ
lead_in spec index d m i = leads spec d (entry_start_of index m) (count_in index m) i

-- where a range begins
unfoldable pub begin : Sharding → List ℕ → List ℕ → Range → ℕ
begin spec index d (chunk_range m i) = chunk_start index d m i
begin spec index d (lead_range m i) = chunk_start index d m i - lead_in spec index d m i
begin spec index d (index_range m) = entry_start_of index m

-- where it ends, that position excluded
unfoldable pub finish : Sharding → List ℕ → List ℕ → Range → ℕ
finish spec index d (chunk_range m i) = chunk_end index d m i
finish spec index d (lead_range m i) = chunk_start index d m i
finish spec index d (index_range m) = entry_end_of index m

-- the shard has it
unfoldable pub Has : Sharding → List ℕ → Range → Type 0
Has spec index (chunk_range m i) = (m < minishard_count_of spec) × (i < count_in index m)
Has spec index (lead_range m i) = (m < minishard_count_of spec) × (i < count_in index m)
Has spec index (index_range m) = m < minishard_count_of spec

-- position p lies in it; none lies in an empty one
pub record LiesIn (spec : Sharding) (index d : List ℕ) (range : Range) (p : ℕ) : Type 0 where
  pub has : Has spec index range
  pub from : begin spec index d range ≤ p
  pub before : p < finish spec index d range

-- it lies in one of them
pub record Listed (spec : Sharding) (index d : List ℕ) (p : ℕ) : Type 0 where
  pub range : Range
  pub lies : LiesIn spec index d range p

-- "An unlisted byte lies past the shard index in no listed chunk, no fragment and no nonempty minishard index." (RULES U4)
pub record Unlisted (spec : Sharding) (index d : List ℕ) (p : ℕ) : Type 0 where
  pub within : p < length d
  pub apart : (range : Range) → LiesIn spec index d range p → ⊥
