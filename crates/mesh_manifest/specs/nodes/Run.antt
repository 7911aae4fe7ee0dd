-- The bytes of a manifest's fragments (source 001, "Encoded mesh fragment data"): one run, "in the same order the nodes are specified in the manifest,
-- starting with lod 0".
use Rattle.std.specs.Prelude.{ℕ, zero, suc, List, [], ◌++◌, take, drop}
use Rattle.mesh_manifest.specs.layout.Layout.{levels_of, count_of}
use Rattle.mesh_manifest.specs.fragment_sums.Sums.{fragment_size}
use Rattle.mesh_manifest.specs.nodes.Nodes.{fragment_start}

-- the fragment of node i of level l, of the manifest s whose fragments are the run
unfoldable pub fragment_of : List ℕ → List ℕ → ℕ → ℕ → List ℕ
fragment_of s run l i = take (fragment_size s l i) (drop (fragment_start s l i) run)

-- the fragments of the first i nodes of level l, one after the other
unfoldable pub of_level : List ℕ → List ℕ → ℕ → ℕ → List ℕ
of_level s run l zero = []
of_level s run l (suc i) = of_level s run l i ++ fragment_of s run l i

-- those of the first l levels
unfoldable pub of_levels : List ℕ → List ℕ → ℕ → List ℕ
of_levels s run zero = []
of_levels s run (suc l) = of_levels s run l ++ of_level s run l (count_of s l)

-- all fragments (RULES M9)
abbrev pub all_fragments : List ℕ → List ℕ → List ℕ
all_fragments s run = of_levels s run (levels_of s)
