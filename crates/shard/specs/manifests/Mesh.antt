-- The tests of the manifests that a mesh minishard lists (RULES M10): 15, 16 and 17 of each, then 21.
use Rattle.std.specs.Prelude.{ℕ, Bool, not, List, [], ◌∷◌, nat_lt}
use Rattle.refusal.specs.Choice.{pick}
use Rattle.mesh_manifest.specs.sound.Verdict.{right_length, reals_fit, nodes_rise}
use Rattle.mesh_manifest.specs.nodes.Nodes.{fragments_length_of}
use Rattle.shard.specs.index.Index.{start_steps, sizes, start_at, chunk_at}
use Rattle.shard.specs.index.Tests.{EntryTest, entry_test}

-- 15, 16, 17: of chunk i, a manifest
unfoldable pub wrong_length : List ℕ → ℕ → ℕ → ℕ → Bool
wrong_length d s n i = not (right_length (chunk_at d s n i))

unfoldable pub bad_real : List ℕ → ℕ → ℕ → ℕ → Bool
bad_real d s n i = not (reals_fit (chunk_at d s n i))

unfoldable pub unordered_nodes : List ℕ → ℕ → ℕ → ℕ → Bool
unordered_nodes d s n i = not (nodes_rise (chunk_at d s n i))

-- 21: its fragments, the bytes right before it, would start before the index end
unfoldable pub fragments_outside : List ℕ → ℕ → ℕ → ℕ → Bool
fragments_outside d s n i = nat_lt (start_at (start_steps d s n) (sizes d s n) i) (fragments_length_of (chunk_at d s n i))

-- RULES M10
unfoldable pub manifest_tests : List ℕ → ℕ → ℕ → List EntryTest
manifest_tests d s n =
    entry_test 15 1 (wrong_length d s n)
    ∷ entry_test 16 1 (bad_real d s n)
    ∷ entry_test 17 1 (unordered_nodes d s n)
    ∷ entry_test 21 1 (fragments_outside d s n)
    ∷ []

-- the first of them that a chunk fails, which starts at `start`; 0 where it fails none
unfoldable pub manifest_number : ℕ → List ℕ → ℕ
manifest_number start body =
    pick (not (right_length body)) 15 (pick (not (reals_fit body)) 16 (pick (not (nodes_rise body)) 17 (pick (nat_lt start (fragments_length_of body)) 21 0)))
