-- The nodes of a level as numbers.
use Rattle.std.specs.Prelude.{ℕ, zero, suc, ◌+◌, List, [], ◌∷◌, ◌++◌}
use Rattle.endian.specs.Range.{sum_to}
use Rattle.mesh_manifest.specs.layout.Layout.{count_of, size_at}
use Rattle.mesh_manifest.specs.nodes.Nodes.{node_in, node_at}
use Rattle.mesh_manifest.specs.declared.nodes.Node.{Node}

-- node i of a level with n nodes whose items begin at `first`, where the level's first fragment starts at `base`: the earlier sizes of its level come before its own
unfoldable pub node_from : List ℕ → ℕ → ℕ → ℕ → ℕ → Node
node_from s first n base i = node_in s first n i (base + sum_to (size_at s first n) i)

-- five numbers for a node: its position, where its fragment starts, and its fragment's size
abbrev pub numbers_of : Node → List ℕ
numbers_of n = n.x ∷ n.y ∷ n.z ∷ n.start ∷ n.size ∷ []

-- those of k nodes from node i on, one node after the other
unfoldable pub numbers_from : (ℕ → Node) → ℕ → ℕ → List ℕ
numbers_from node i zero = []
numbers_from node i (suc k) = numbers_of (node i) ++ numbers_from node (suc i) k

-- RULES M7
unfoldable pub nodes_of : List ℕ → ℕ → List ℕ
nodes_of s l = numbers_from (node_at s l) 0 (count_of s l)
