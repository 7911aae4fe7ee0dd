-- All nodes of a level of a manifest. The call judges 15, 16 and 17 first, then its own.
use Rattle.std.specs.Prelude.{ℕ, not, List, [], ◌∷◌, ◌++◌, length, Ok}
use Rattle.refusal.specs.Checks.{Check, check, answered, left}
use Rattle.refusal.specs.Buffer.{room, over}
use Rattle.refusal.specs.Answers.{Answer, refuse}
use Rattle.mesh_manifest.specs.sound.Verdict.{manifest_checks}
use Rattle.mesh_manifest.specs.nodes.Nodes.{has_level}
use Rattle.mesh_manifest.specs.node_numbers.Numbers.{nodes_of}

-- 18: "no such level"; then 13
unfoldable pub nodes_checks : List ℕ → ℕ → List ℕ → List Check
nodes_checks s l out = manifest_checks s ++ (check 18 (not (has_level s l)) ∷ room (nodes_of s l) out ∷ [])

-- what the call answers: how many numbers it wrote
unfoldable pub nodes_answer : List ℕ → ℕ → List ℕ → Answer ℕ
nodes_answer s l out = answered refuse (nodes_checks s l out) (Ok (length (nodes_of s l)))

-- what the lent numbers hold afterwards
unfoldable pub nodes_left : List ℕ → ℕ → List ℕ → List ℕ
nodes_left s l out = left (nodes_checks s l out) (over (nodes_of s l) out) out
