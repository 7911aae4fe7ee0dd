-- One node's fragment: "Lookup can hand out the manifest or one node's fragment (18, after 12, for no such node or a volume shard)" (RULES M11).
-- The answer is a lookup's: a place in the file and a length, or a refusal.
use Rattle.std.specs.Prelude.{ℕ, ◌+◌, ◌-◌, Bool, not, ◌||◌, List, [], ◌∷◌, ◌++◌}
use Rattle.refusal.specs.Checks.{Check, check, answered, answered_at}
use Rattle.sharding.specs.declared.Sharding.{Sharding}
use Rattle.sharding.specs.Specification.{is_mesh}
use Rattle.mesh_manifest.specs.fragment_sums.Sums.{fragment_size}
use Rattle.mesh_manifest.specs.nodes.Nodes.{has_node, fragment_start, fragments_length_of}
use Rattle.shard.specs.File.{index_part, data_part}
use Rattle.lookup.specs.declared.id_search.LookupAnswer.{LookupAnswer}
use Rattle.lookup.specs.declared.id_search.LookupAnswer.TheVariants.{Found, Refused, Faulty}
use Rattle.lookup.specs.chosen_minishard.Chosen.{chosen_chunk}
use Rattle.lookup.specs.Find.{lookup_checks, part_start, part_bytes}

-- ---- of a manifest

-- the fragment of a node of the manifest s, which stands at `start` in the file: its fragments are "the bytes before it, as many as the sum of its
-- sizes", no more than `start` where 21 does not hold; this one begins as many bytes behind their beginning as those before it have together
-- (source 001)
unfoldable pub fragment_before : List ℕ → ℕ → ℕ → ℕ → LookupAnswer
fragment_before s start level node = Found (start - fragments_length_of s + fragment_start s level node) (fragment_size s level node)

-- 18: "no such level, node"
unfoldable pub fragment_in : List ℕ → ℕ → ℕ → ℕ → LookupAnswer
fragment_in s start level node = answered Refused (check 18 (not (has_node s level node)) ∷ []) (fragment_before s start level node)

-- ---- in a file

-- the manifest of the id, and its place: the chunk that a lookup finds
abbrev pub manifest_of : Sharding → List ℕ → ℕ → List ℕ
manifest_of spec file id = part_bytes (chosen_chunk spec (index_part spec file) (data_part spec file) id) file

abbrev pub manifest_start : Sharding → List ℕ → ℕ → ℕ
manifest_start spec file id = part_start (chosen_chunk spec (index_part spec file) (data_part spec file) id)

-- 18, also of a volume, whose chunks are no manifests
unfoldable pub no_node : Sharding → List ℕ → ℕ → ℕ → Bool
no_node spec s level node = not (is_mesh spec) || not (has_node s level node)

-- those of a lookup, then 18
unfoldable pub fragment_checks : Sharding → ℕ → List ℕ → ℕ → ℕ → ℕ → List Check
fragment_checks spec shard file id level node = lookup_checks spec shard file id ++ (check 18 (no_node spec (manifest_of spec file id) level node) ∷ [])

-- RULES M11
unfoldable pub fragment_answer : Sharding → ℕ → List ℕ → ℕ → ℕ → ℕ → LookupAnswer
fragment_answer spec shard file id level node =
    answered_at Refused Faulty (fragment_checks spec shard file id level node)
    (fragment_before (manifest_of spec file id) (manifest_start spec file id) level node)
