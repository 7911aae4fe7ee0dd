-- Which shards are sound (RULES F14, of meshes M10), said of all entries: the check passes exactly these.
use Rattle.std.specs.Prelude.{◌≡◌, ℕ, ◌-◌, ◌%◌, ◌<◌, ◌≤◌, true, ◌⊎◌, List, length, ◌≢◌}
use Rattle.std.proofs.Math.Option.{some}
use Rattle.refusal.specs.Checks.{first_number, first_position}
use Rattle.sharding.specs.declared.Sharding.{Sharding}
use Rattle.sharding.specs.Specification.{is_mesh, allowed, minishard_count_of, shard_count_of, no_such_shard}
use Rattle.sharding.specs.placement.Place.{shard_of, minishard_of}
use Rattle.shard.specs.index.Index.{entry_start_of, entry_end_of, entry_count, id_steps, start_steps, sizes, id_at, start_at, end_at, chunk_at, most_shard_bytes}
use Rattle.mesh_manifest.specs.sound.Soundness.{Sound}
use Rattle.mesh_manifest.specs.nodes.Nodes.{fragments_length_of}
use Rattle.shard.specs.Checks.{minishard_checks}
use Rattle.shard.specs.File.{index_length_of, index_part, data_part, file_checks}

-- none of 7 to 11, for a mesh also none of 15 to 17 and 21, holds of minishard m, whose minishard index stands in d from s to e (RULES F6, F14)
pub record SoundFrom (spec : Sharding) (shard m : ℕ) (d : List ℕ) (s e : ℕ) : Type 0 where
  -- 7: the start is not after the end; where it is before it, the end is within the file
  pub ordered : s ≤ e
  pub within : (s ≡ e) ⊎ (e ≤ length d)
  -- 8
  pub whole : (e - s) % 24 ≡ 0
  -- 9
  pub distinct : (i j : ℕ) → i < j → j < entry_count s e → id_at (id_steps d s) i ≢ id_at (id_steps d s) j
  -- 10
  pub ours : (i : ℕ) → i < entry_count s e → shard_of spec (id_at (id_steps d s) i) ≡ shard
  pub here : (i : ℕ) → i < entry_count s e → minishard_of spec (id_at (id_steps d s) i) ≡ m
  -- 11
  pub inside : (i : ℕ) → i < entry_count s e → end_at (start_steps d s (entry_count s e)) (sizes d s (entry_count s e)) i ≤ length d
  -- 15 to 17, of a mesh: each chunk is a sound manifest
  pub manifests : is_mesh spec ≡ true → (i : ℕ) → i < entry_count s e → Sound (chunk_at d s (entry_count s e) i)
  -- 21, of a mesh: its fragments, the bytes right before it, start at the index end or behind it
  pub fragments : is_mesh spec ≡ true → (i : ℕ) → i < entry_count s e
      → fragments_length_of (chunk_at d s (entry_count s e) i) ≤ start_at (start_steps d s (entry_count s e)) (sizes d s (entry_count s e)) i

abbrev pub SoundMinishard : Sharding → ℕ → List ℕ → List ℕ → ℕ → Type 0
SoundMinishard spec shard index d m = SoundFrom spec shard m d (entry_start_of index m) (entry_end_of index m)

-- nor does 1, 5 or 6, and each minishard is sound (RULES F14)
pub record SoundShard (spec : Sharding) (shard : ℕ) (file : List ℕ) : Type 0 where
  pub permitted : allowed spec ≡ true
  pub numbered : shard < shard_count_of spec
  pub held : index_length_of spec ≤ length file
  pub short : length file ≤ most_shard_bytes
  pub each : (m : ℕ) → m < minishard_count_of spec → SoundMinishard spec shard (index_part spec file) (data_part spec file) m

-- ---- which are not

-- none of 1, 5 and 6 holds; minishard m is the first, in number order, with a fault, k is the first number that holds of it, and p its position
-- (RULES F13)
pub record FirstFaultIs (spec : Sharding) (shard : ℕ) (file : List ℕ) (k m p : ℕ) : Type 0 where
  pub called : first_number (file_checks spec (no_such_shard spec shard) file) ≡ 0
  pub below : m < minishard_count_of spec
  pub earlier : (j : ℕ) → j < m → SoundMinishard spec shard (index_part spec file) (data_part spec file) j
  pub number : first_number (minishard_checks spec shard (index_part spec file) (data_part spec file) m) ≡ k
  pub position : first_position (minishard_checks spec shard (index_part spec file) (data_part spec file) m) ≡ some p
  pub faulty : k ≡ 0 → ⊥
