-- Labels across the C border: how a chunk's labels are laid out, and what the lent label holds afterwards.
use Rattle.std.specs.Prelude.{ℕ, Bool, not, ◌&&◌, List, [], ◌∷◌, eqb}
use Rattle.refusal.specs.Checks.{Check, check, answered, left}
use Rattle.refusal.specs.Answers.{Answer, refuse}
use Rattle.morton.specs.declared.grid.Extents.{Extents}
use Rattle.compressed_segmentation.specs.declared.Shape.{Shape}
use Rattle.compressed_segmentation.specs.Labels.{label_result}
use Rattle.coronagamba.specs.word.Word.{after}

-- "32- or 64-bit labels" (RULES E1): no other number is a label width
abbrev pub no_width : ℕ → Bool
no_width bits = not (eqb bits 32) && not (eqb bits 64)

-- asked with such a number, each call refuses with 2 before all else, RULES E1; otherwise it answers as the library does
abbrev pub width_checks : ℕ → List Check
width_checks bits = check 2 (no_width bits) ∷ []

abbrev pub label_by : ℕ → Answer ℕ → Answer ℕ
label_by bits answer = answered refuse (width_checks bits) answer

abbrev pub written_by : ℕ → Answer ℕ → Answer ℕ
written_by bits answer = answered refuse (width_checks bits) answer

-- and what an output then holds
abbrev pub labels_left_by : ℕ → List ℕ → List ℕ → List ℕ
labels_left_by bits after before = left (width_checks bits) after before

abbrev pub shape_of : Extents → Extents → ℕ → ℕ → Shape
shape_of size block channels bits = record { extents = size; block = block; channels = channels; wide = eqb bits 64 }

unfoldable pub label_after : Answer ℕ → ℕ → ℕ
label_after a before = after (λ (label : ℕ). label) (label_result a) before
