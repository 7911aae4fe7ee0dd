-- What the position of a refusal points at (RULES R4): for 7 and 8 the index entry, for 9 and 10 the id step of the first offending
-- entry, for 11, 15, 16, 17 and 21 its start step.
use Rattle.std.specs.Prelude.{ℕ, ◌+◌, ◌*◌, ◌≤◌, ◌<◌, ◌≡◌, Bool, true, false, List, length}
use Rattle.endian.specs.Little.{le_at}
use Rattle.sharding.specs.declared.Sharding.{Sharding}
use Rattle.sharding.specs.Specification.{is_mesh}
use Rattle.shard.specs.declared.CheckAnswer.TheVariants.{Faulty}
use Rattle.shard.specs.index.Index.{entry_start_of, entry_end_of, entry_count, id_steps, start_steps, sizes, most_shard_bytes}
use Rattle.shard.specs.manifests.Mesh.{wrong_length, bad_real, unordered_nodes, fragments_outside}
use Rattle.shard.specs.Faults.{bad_entry, bad_length, bad_id, foreign_at, ends_past}
use Rattle.shard.specs.File.{index_length_of, index_part, data_part, check_answer}

-- the 16 bytes of the file from p on are the index entry of minishard m: its start s and its end e
pub record AtEntry (file : List ℕ) (m s e p : ℕ) : Type 0 where
  pub placed : p ≡ 16 * m
  pub within : p + 16 ≤ length file
  pub start : le_at 8 file p ≡ s
  pub end : le_at 8 file (p + 8) ≡ e

-- the 8 bytes of the file from p on are the number, in the row that begins at q, of the first of n entries that fails the test
pub record AtFirst (file : List ℕ) (n q : ℕ) (row : ℕ → ℕ) (fails : ℕ → Bool) (p : ℕ) : Type 0 where
  pub entry : ℕ
  pub among : entry < n
  pub failed : fails entry ≡ true
  pub earlier : (j : ℕ) → j < entry → fails j ≡ false
  pub placed : p ≡ q + 8 * entry
  pub within : p + 8 ≤ length file
  pub number : le_at 8 file p ≡ row entry

-- in the row of id steps, or of start steps, of the minishard index of n entries that stands in the data d at s
abbrev pub AtIdStep : Sharding → List ℕ → List ℕ → ℕ → ℕ → (ℕ → Bool) → ℕ → Type 0
AtIdStep spec file d s n fails p = AtFirst file n (index_length_of spec + s) (id_steps d s) fails p

abbrev pub AtStartStep : Sharding → List ℕ → List ℕ → ℕ → ℕ → (ℕ → Bool) → ℕ → Type 0
AtStartStep spec file d s n fails p = AtFirst file n (index_length_of spec + (s + 8 * n)) (start_steps d s n) fails p

-- what stands at p where minishard m, whose minishard index of n entries stands in d from s to e, is refused with k: what test k holds of
pub data Offending (spec : Sharding) (shard : ℕ) (file d : List ℕ) (m s e n k p : ℕ) : Type 0 where
  -- the index entry of the minishard,
  seven : k ≡ 7 → AtEntry file m s e p → bad_entry d s e ≡ true → Offending spec shard file d m s e n k p
  eight : k ≡ 8 → AtEntry file m s e p → bad_length s e ≡ true → Offending spec shard file d m s e n k p
  -- the id step of the first entry that has the id of an earlier one, or whose id is of another place,
  nine : k ≡ 9 → AtIdStep spec file d s n (bad_id (id_steps d s)) p → Offending spec shard file d m s e n k p
  ten : k ≡ 10 → AtIdStep spec file d s n (foreign_at spec shard m (id_steps d s)) p → Offending spec shard file d m s e n k p
  -- the start step of the first entry whose chunk ends past the file,
  eleven : k ≡ 11 → AtStartStep spec file d s n (ends_past (length d) (start_steps d s n) (sizes d s n)) p → Offending spec shard file d m s e n k p
  -- in a mesh that of the first entry whose chunk fails a manifest's test, or whose fragments would start before the index end
  fifteen : is_mesh spec ≡ true → k ≡ 15 → AtStartStep spec file d s n (wrong_length d s n) p → Offending spec shard file d m s e n k p
  sixteen : is_mesh spec ≡ true → k ≡ 16 → AtStartStep spec file d s n (bad_real d s n) p → Offending spec shard file d m s e n k p
  seventeen : is_mesh spec ≡ true → k ≡ 17 → AtStartStep spec file d s n (unordered_nodes d s n) p → Offending spec shard file d m s e n k p
  twentyone : is_mesh spec ≡ true → k ≡ 21 → AtStartStep spec file d s n (fragments_outside d s n) p → Offending spec shard file d m s e n k p

-- it lies within the file, which has an allowed length (RULES R4)
pub record PointsFrom (spec : Sharding) (shard : ℕ) (file : List ℕ) (m k p : ℕ) (d : List ℕ) (s e : ℕ) : Type 0 where
  pub within : p + 8 ≤ length file
  pub short : length file ≤ most_shard_bytes
  pub offending : Offending spec shard file d m s e (entry_count s e) k p

abbrev pub PointsAt : Sharding → ℕ → List ℕ → ℕ → ℕ → ℕ → Type 0
PointsAt spec shard file m k p = PointsFrom spec shard file m k p (data_part spec file) (entry_start_of (index_part spec file) m) (entry_end_of (index_part spec file) m)

-- the check names k and p, with the first faulty minishard
pub record Named (spec : Sharding) (shard : ℕ) (file : List ℕ) (k p : ℕ) : Type 0 where
  pub minishard : ℕ
  pub named : check_answer spec shard file ≡ Faulty k minishard p
  pub points : PointsAt spec shard file minishard k p
