-- Manifests across the C border: what the lent numbers hold afterwards. Reals are written as their bit patterns.
use Rattle.std.specs.Prelude.{ℕ, List, [], ◌∷◌, Float}
use Rattle.std.specs.Float.{binary32}
use Rattle.std.specs.Float.Ieee.{to_bits}
use Rattle.mesh_manifest.specs.declared.Header.{Header}
use Rattle.refusal.specs.Answers.{Answer}
use Rattle.mesh_manifest.specs.declared.Field.{Field}
use Rattle.mesh_manifest.specs.declared.nodes.Node.{Node}
use Rattle.mesh_manifest.specs.declared.corners.Corner.{Corner}
use Rattle.mesh_manifest.specs.declared.corners.Corners.{Corners}
use Rattle.mesh_manifest.specs.Fields.{header_result, field_result}
use Rattle.mesh_manifest.specs.nodes.Nodes.{node_result}
use Rattle.mesh_manifest.specs.corners.Boxes.{corners_result}
use Rattle.coronagamba.specs.word.Word.{after}

-- the pattern of a real
abbrev pub bits : Float → ℕ
bits x = to_bits binary32 x

-- chunk shape, then grid origin
abbrev pub header_bits : Header → List ℕ
header_bits h =
    bits h.shape_x ∷ bits h.shape_y ∷ bits h.shape_z ∷ bits h.origin_x ∷ bits h.origin_y ∷ bits h.origin_z ∷ []

unfoldable pub header_after : Answer Header → List ℕ → List ℕ
header_after a before = after header_bits (header_result a) before

-- 1 for a real, 0 for a whole number
unfoldable pub kind_after : Answer Field → ℕ → ℕ
kind_after a before = after (λ (v : ℕ × ℕ). v.0) (field_result a) before

unfoldable pub value_after : Answer Field → ℕ → ℕ
value_after a before = after (λ (v : ℕ × ℕ). v.1) (field_result a) before

unfoldable pub position_after : Answer Node → List ℕ → List ℕ
position_after a before = after (λ (node : Node). node.x ∷ node.y ∷ node.z ∷ []) (node_result a) before

unfoldable pub fragment_after : Answer Node → ℕ → ℕ
fragment_after a before = after (λ (node : Node). node.start) (node_result a) before

unfoldable pub bytes_after : Answer Node → ℕ → ℕ
bytes_after a before = after (λ (node : Node). node.size) (node_result a) before

abbrev pub corner_bits : Corner → List ℕ
corner_bits c = bits c.x ∷ bits c.y ∷ bits c.z ∷ []

unfoldable pub near_after : Answer Corners → List ℕ → List ℕ
near_after a before = after (λ (c : Corners). corner_bits c.near) (corners_result a) before

unfoldable pub far_after : Answer Corners → List ℕ → List ℕ
far_after a before = after (λ (c : Corners). corner_bits c.far) (corners_result a) before
