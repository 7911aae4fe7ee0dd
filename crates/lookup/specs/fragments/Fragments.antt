-- What is said of the answer about a fragment: the bytes that it hands out, and those that it depends on (RULES M11, M12).
use Rattle.std.specs.Prelude.{◌≡◌, ℕ, ◌+◌, ◌≤◌, false, ◌⊎◌, List, length, take, drop}
use Rattle.sharding.specs.declared.Sharding.{Sharding}
use Rattle.sharding.specs.Specification.{is_mesh}
use Rattle.sharding.specs.placement.Place.{minishard_of}
use Rattle.mesh_manifest.specs.nodes.Nodes.{has_node, fragment_start, fragments_length_of}
use Rattle.shard.specs.File.{index_length_of, index_part, data_part}
use Rattle.shard.specs.Sound.{SoundMinishard}
use Rattle.shard.specs.Lists.{ListsIn}
use Rattle.lookup.specs.declared.id_search.LookupAnswer.TheVariants.{Found}
use Rattle.lookup.specs.Find.{lookup_answer, part_bytes}
use Rattle.lookup.specs.fragments.Fragment.{fragment_answer}

-- the call finds these bytes, behind the shard index and within the file, and at the very place: all fragments of the manifest that a lookup finds
-- end where it begins, and this one begins as many bytes behind their beginning as those before it have (RULES M11)
pub record HandsOutFragment (spec : Sharding) (shard : ℕ) (file : List ℕ) (id level node : ℕ) (bytes : List ℕ) : Type 0 where
  pub start : ℕ
  pub count : ℕ
  pub found : fragment_answer spec shard file id level node ≡ Found start count
  pub behind : index_length_of spec ≤ start
  pub within : start + count ≤ length file
  pub manifest : ℕ
  pub size : ℕ
  pub before : lookup_answer spec shard file id ≡ Found manifest size
  pub placed : start + fragments_length_of (take size (drop manifest file)) ≡ manifest + fragment_start (take size (drop manifest file)) level node
  pub counted : count ≡ length bytes
  pub taken : take count (drop start file) ≡ bytes
  pub part : part_bytes (fragment_answer spec shard file id level node) file ≡ bytes

-- "no such node or a volume shard": the chosen minishard is sound and lists the id, but of a volume, or with a manifest that has no such node
-- (RULES M11)
pub record LacksFragment (spec : Sharding) (shard : ℕ) (file : List ℕ) (id level node : ℕ) : Type 0 where
  pub bytes : List ℕ
  pub sound : SoundMinishard spec shard (index_part spec file) (data_part spec file) (minishard_of spec id)
  pub lists : ListsIn (index_part spec file) (data_part spec file) (minishard_of spec id) id bytes
  pub lacks : (is_mesh spec ≡ false) ⊎ (has_node bytes level node ≡ false)

-- two files agree in the fragment that is handed out of the second, if one is
abbrev pub AgreeInFragment : Sharding → ℕ → ℕ → ℕ → ℕ → List ℕ → List ℕ → Type 0
AgreeInFragment spec shard id level node a b =
    (start n : ℕ) → fragment_answer spec shard b id level node ≡ Found start n → take n (drop start a) ≡ take n (drop start b)

-- the call gives the same answer of them, and hands out the same bytes where they agree in these (RULES M12)
pub record SameFragment (spec : Sharding) (shard id level node : ℕ) (a b : List ℕ) : Type 0 where
  pub answer : fragment_answer spec shard a id level node ≡ fragment_answer spec shard b id level node
  pub bytes : AgreeInFragment spec shard id level node a b
      → part_bytes (fragment_answer spec shard a id level node) a ≡ part_bytes (fragment_answer spec shard b id level node) b
