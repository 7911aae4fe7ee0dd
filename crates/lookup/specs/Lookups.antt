-- What is said of a lookup's answer: the chunk that it hands out, and the bytes that it depends on (RULES L3, L4).
use Rattle.std.specs.Prelude.{◌≡◌, ℕ, ◌+◌, ◌-◌, ◌*◌, ◌<◌, ◌≤◌, true, List, length, take, drop}
use Rattle.sharding.specs.declared.Sharding.{Sharding}
use Rattle.sharding.specs.Specification.{is_mesh, allowed}
use Rattle.sharding.specs.placement.Place.{shard_of, minishard_of}
use Rattle.shard.specs.index.Index.{entry_start_of, entry_end_of, entry_count, start_steps, sizes, start_at, chunk_at, most_shard_bytes}
use Rattle.shard.specs.File.{index_length_of, index_part, data_part}
use Rattle.lookup.specs.declared.id_search.LookupAnswer.TheVariants.{Found}
use Rattle.lookup.specs.Find.{lookup_answer, part_bytes}

-- an allowed specification, an id of the shard that is given, a file of allowed length
pub record Asked (spec : Sharding) (shard : ℕ) (file : List ℕ) (id : ℕ) : Type 0 where
  pub permitted : allowed spec ≡ true
  pub numbered : shard_of spec id ≡ shard
  pub held : index_length_of spec ≤ length file
  pub short : length file ≤ most_shard_bytes

-- ---- the chunk handed out

-- where chunk i of minishard m begins, counted from the end of the shard index
abbrev pub chunk_start : List ℕ → List ℕ → ℕ → ℕ → ℕ
chunk_start index d m i =
    let s = entry_start_of index m in
    let n = entry_count s (entry_end_of index m) in
    start_at (start_steps d s n) (sizes d s n) i

-- a lookup finds these bytes, and at the very place that entry i of the chosen minishard gives, which lies within the file (RULES L3)
pub record HandsOut (spec : Sharding) (shard : ℕ) (file : List ℕ) (id i : ℕ) (bytes : List ℕ) : Type 0 where
  pub start : ℕ
  pub count : ℕ
  pub found : lookup_answer spec shard file id ≡ Found start count
  pub placed : start ≡ index_length_of spec + chunk_start (index_part spec file) (data_part spec file) (minishard_of spec id) i
  pub within : start + count ≤ length file
  pub counted : count ≡ length bytes
  pub taken : take count (drop start file) ≡ bytes
  pub part : part_bytes (lookup_answer spec shard file id) file ≡ bytes

-- ---- what it depends on

-- the 16 bytes of the entry of minishard m, and the minishard index that they point at
abbrev pub entry_bytes : List ℕ → ℕ → List ℕ
entry_bytes file m = take 16 (drop (16 * m) file)

abbrev pub index_bytes : Sharding → List ℕ → ℕ → List ℕ
index_bytes spec file m =
    let s = entry_start_of (index_part spec file) m in
    let e = entry_end_of (index_part spec file) m in
    take (e - s) (drop s (data_part spec file))

-- how many chunks minishard m lists, and the bytes of chunk i
abbrev pub chunk_count : Sharding → List ℕ → ℕ → ℕ
chunk_count spec file m = entry_count (entry_start_of (index_part spec file) m) (entry_end_of (index_part spec file) m)

abbrev pub chunk_bytes : Sharding → List ℕ → ℕ → ℕ → List ℕ
chunk_bytes spec file m i = chunk_at (data_part spec file) (entry_start_of (index_part spec file) m) (chunk_count spec file m) i

-- two files agree in their length, in the index entry of the id's minishard, and in that minishard's index; of a mesh also in "every manifest of
-- the chosen minishard" (RULES L4)
pub record AgreeFor (spec : Sharding) (id : ℕ) (a b : List ℕ) : Type 0 where
  pub size : length a ≡ length b
  pub entry : entry_bytes a (minishard_of spec id) ≡ entry_bytes b (minishard_of spec id)
  pub index : index_bytes spec a (minishard_of spec id) ≡ index_bytes spec b (minishard_of spec id)
  pub manifests : is_mesh spec ≡ true → (i : ℕ) → i < chunk_count spec a (minishard_of spec id)
      → chunk_bytes spec a (minishard_of spec id) i ≡ chunk_bytes spec b (minishard_of spec id) i

-- they agree in the chunk that is handed out of the second, if one is
abbrev pub AgreeInChunk : Sharding → ℕ → ℕ → List ℕ → List ℕ → Type 0
AgreeInChunk spec shard id a b = (start n : ℕ) → lookup_answer spec shard b id ≡ Found start n → take n (drop start a) ≡ take n (drop start b)

-- a lookup in them gives the same answer, and hands out the same bytes where they agree in these (RULES L4)
pub record SameAnswer (spec : Sharding) (shard id : ℕ) (a b : List ℕ) : Type 0 where
  pub answer : lookup_answer spec shard a id ≡ lookup_answer spec shard b id
  pub bytes : AgreeInChunk spec shard id a b → part_bytes (lookup_answer spec shard a id) a ≡ part_bytes (lookup_answer spec shard b id) b
