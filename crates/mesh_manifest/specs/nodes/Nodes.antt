-- The nodes of a manifest, one by one. A call judges 15, 16 and 17 first, then its own.
use Rattle.std.specs.Prelude.{ℕ, ◌+◌, Bool, not, ◌&&◌, List, [], ◌∷◌, ◌++◌, ltb, Ok, Err}
use Rattle.refusal.specs.Checks.{Check, check, answered}
use Rattle.refusal.specs.Result.{Result, success, refused}
use Rattle.endian.specs.Range.{sum_to}
use Rattle.mesh_manifest.specs.layout.Layout.{levels_of, count_of, level_item, x_at, y_at, z_at, size_at}
use Rattle.mesh_manifest.specs.sound.Verdict.{manifest_checks}
use Rattle.mesh_manifest.specs.fragment_sums.Sums.{level_bytes}
use Rattle.mesh_manifest.specs.declared.nodes.Node.{Node}
use Rattle.refusal.specs.Answers.{Answer, refuse}
use Rattle.refusal.specs.Table.{number_of}

-- there is a level l
abbrev pub has_level : List ℕ → ℕ → Bool
has_level s l = ltb l (levels_of s)

-- and it has a node i
unfoldable pub has_node : List ℕ → ℕ → ℕ → Bool
has_node s l i = has_level s l && ltb i (count_of s l)

-- ---- fragments

-- where that fragment starts, counted from the first fragment: the sum of all earlier sizes, over all levels
-- (source 001 names the sizes offsets; they are sizes) (RULES M7)
unfoldable pub fragment_start : List ℕ → ℕ → ℕ → ℕ
fragment_start s l i = sum_to (level_bytes s) l + sum_to (size_at s (level_item s l) (count_of s l)) i

-- how many bytes all fragments have together (RULES M9)
unfoldable pub fragments_length_of : List ℕ → ℕ
fragments_length_of s = sum_to (level_bytes s) (levels_of s)

-- ---- a node

-- node i of a level with n nodes whose items begin at `first`; its fragment is the bytes from `start` up to `start + size`, end excluded
unfoldable pub node_in : List ℕ → ℕ → ℕ → ℕ → ℕ → Node
node_in s first n i start =
    record {
      x = x_at s first n i;
      y = y_at s first n i;
      z = z_at s first n i;
      start = start;
      size = size_at s first n i;
    }

-- RULES M7
unfoldable pub node_at : List ℕ → ℕ → ℕ → Node
node_at s l i = node_in s (level_item s l) (count_of s l) i (fragment_start s l i)

-- 18: "no such level, node"
unfoldable pub node_checks : List ℕ → ℕ → ℕ → List Check
node_checks s l i = manifest_checks s ++ (check 18 (not (has_node s l i)) ∷ [])

unfoldable pub node_answer : List ℕ → ℕ → ℕ → Answer Node
node_answer s l i = answered refuse (node_checks s l i) (Ok (node_at s l i))

abbrev pub node_result : Answer Node → Result Node
node_result (Ok node) = success node
node_result (Err k) = refused (number_of k)
