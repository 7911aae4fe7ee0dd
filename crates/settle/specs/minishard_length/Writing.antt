-- What the writers of one minishard take and make, whose minishard index of n entries stands in the data d at s.
use Rattle.std.specs.Prelude.{◌≡◌, ℕ, zero, suc, ◌+◌, ◌*◌, ◌<◌, ◌≤◌, min, Bool, true, false, List, [], ◌++◌, length, ◌≢◌}
use Rattle.sharding.specs.declared.Sharding.{Sharding}
use Rattle.sharding.specs.Specification.{is_mesh}
use Rattle.shard.specs.index.Index.{id_steps, start_steps, sizes, id_at, start_at, end_at, chunk_at, most_shard_bytes}
use Rattle.shard.specs.Items.{Led, NoLeads}
use Rattle.settled_form.specs.Form.{chunks_length}
use Rattle.settled_form.specs.Content.{items_at}

-- the minishard index, and each chunk that it lists, lie within d
pub record ReadableIndex (d : List ℕ) (s n : ℕ) : Type 0 where
  pub some : 0 < n
  pub index : s + 24 * n ≤ length d
  pub inside : (i : ℕ) → i < n → end_at (start_steps d s n) (sizes d s n) i ≤ length d

-- so does each chunk's lead
pub record LeadsIn (spec : Sharding) (d : List ℕ) (s n : ℕ) : Type 0 where
  pub led : (i : ℕ) → i < n → Led spec d (start_at (start_steps d s n) (sizes d s n) i) (sizes d s n i)

-- no two entries have one id
pub record Apart (d : List ℕ) (s n : ℕ) : Type 0 where
  pub ids : (i j : ℕ) → i < j → j < n → id_at (id_steps d s) i ≢ id_at (id_steps d s) j

-- each id is above the one before
abbrev pub IdsRise : (ℕ → ℕ) → ℕ → Type 0
IdsRise steps n = (i : ℕ) → suc i < n → id_at steps i < id_at steps (suc i)

-- b tells whether the ids rise
pub record Climbs (steps : ℕ → ℕ) (n : ℕ) (b : Bool) : Type 0 where
  pub up : b ≡ true → IdsRise steps n
  pub all : IdsRise steps n → b ≡ true

-- the settled minishard index differs in its start steps alone: no chunk has a lead, and the ids rise as they stand
pub record Stored (spec : Sharding) (d : List ℕ) (s n : ℕ) : Type 0 where
  pub alone : NoLeads spec
  pub up : IdsRise (id_steps d s) n

-- so it is where b is true; b is true of each minishard of a volume whose ids rise
pub record MayStand (spec : Sharding) (d : List ℕ) (s n : ℕ) (b : Bool) : Type 0 where
  pub stored : b ≡ true → Stored spec d s n
  pub all : is_mesh spec ≡ false → IdsRise (id_steps d s) n → b ≡ true

-- the chunks alone, one after the other: k of them from entry i on
unfoldable pub chunks_from : List ℕ → ℕ → ℕ → ℕ → ℕ → List ℕ
chunks_from d s n i zero = []
chunks_from d s n i (suc k) = chunk_at d s n i ++ chunks_from d s n (suc i) k

-- the length of the settled minishard
abbrev pub minishard_length : Sharding → List ℕ → ℕ → ℕ → ℕ
minishard_length spec d s n = chunks_length (items_at spec d s n) + 24 * n

-- a length, counted up to the first one that is refused
abbrev pub capped : ℕ → ℕ
capped n = min n (most_shard_bytes + 1)
