-- The corners of a node (RULES M8): "origin + (position × shape) × 2^level, its far corner near + shape × 2^level, in f32,
-- each operation rounded once in that order, judged by bits".
use Rattle.std.specs.Prelude.{ℕ, ◌^◌, Bool, not, ◌&&◌, List, [], ◌∷◌, ◌++◌, ltb, Ok, Err}
use Rattle.refusal.specs.Checks.{Check, check, answered}
use Rattle.refusal.specs.Result.{Result, success, refused}
use Rattle.mesh_manifest.specs.reals.Reals.{finite, near_of, far_of}
use Rattle.mesh_manifest.specs.Fields.{header_at}
use Rattle.mesh_manifest.specs.nodes.Nodes.{node_at, node_checks}
use Rattle.mesh_manifest.specs.declared.Header.{Header}
use Rattle.mesh_manifest.specs.declared.nodes.Node.{Node}
use Rattle.mesh_manifest.specs.declared.corners.Corner.{Corner}
use Rattle.mesh_manifest.specs.declared.corners.Corners.{Corners}
use Rattle.refusal.specs.Answers.{Answer, refuse}
use Rattle.refusal.specs.Table.{number_of}

unfoldable pub near_corner : Header → ℕ → Node → Corner
near_corner h l n =
    record {
      x = near_of h.origin_x h.shape_x n.x l;
      y = near_of h.origin_y h.shape_y n.y l;
      z = near_of h.origin_z h.shape_z n.z l;
    }

unfoldable pub far_corner : Header → ℕ → Corner → Corner
far_corner h l near =
    record {
      x = far_of near.x h.shape_x l;
      y = far_of near.y h.shape_y l;
      z = far_of near.z h.shape_z l;
    }

-- the corners that a header gives a node of level l
unfoldable pub box_of : Header → ℕ → Node → Corners
box_of h l n = record { near = near_corner h l n; far = far_corner h l (near_corner h l n) }

-- each position is below 2^24
unfoldable pub placed : Node → Bool
placed n = ltb n.x (2 ^ 24) && (ltb n.y (2 ^ 24) && ltb n.z (2 ^ 24))

unfoldable pub finite_corner : Corner → Bool
finite_corner c = finite c.x && (finite c.y && finite c.z)

-- 18: "that node has a position of 2^24 or more or either corner is not finite" (RULES M8)
unfoldable pub box_checks : Header → ℕ → Node → List Check
box_checks h l n =
    check 18 (not (placed n))
    ∷ check 18 (not (finite_corner (near_corner h l n)))
    ∷ check 18 (not (finite_corner (far_corner h l (near_corner h l n))))
    ∷ []

unfoldable pub box_answer : Header → ℕ → Node → Answer Corners
box_answer h l n = answered refuse (box_checks h l n) (Ok (box_of h l n))

-- of a node of a manifest: those of the node first
unfoldable pub corners_checks : List ℕ → ℕ → ℕ → List Check
corners_checks s l i = node_checks s l i ++ box_checks (header_at s) l (node_at s l i)

unfoldable pub corners_answer : List ℕ → ℕ → ℕ → Answer Corners
corners_answer s l i = answered refuse (corners_checks s l i) (Ok (box_of (header_at s) l (node_at s l i)))

abbrev pub corners_result : Answer Corners → Result Corners
corners_result (Ok corners) = success corners
corners_result (Err k) = refused (number_of k)
