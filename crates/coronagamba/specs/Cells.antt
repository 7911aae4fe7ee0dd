-- Cells across the C border: what the lent numbers hold afterwards. Three numbers are x, y and z.
use Rattle.std.specs.Prelude.{ℕ, List, [], ◌∷◌, ℤ}
use Rattle.morton.specs.declared.grid.Extents.{Extents}
use Rattle.morton.specs.declared.grid.Cell.{Cell}
use Rattle.refusal.specs.Answers.{Answer}
use Rattle.morton.specs.declared.bounds.Bounds.{Bounds}
use Rattle.morton.specs.grid.Answers.{grid_result}
use Rattle.morton.specs.Answers.{key_result, cell_result}
use Rattle.morton.specs.bounds.Answers.{bounds_result}
use Rattle.coronagamba.specs.word.Word.{after}

unfoldable pub grid_after : Answer Extents → List ℕ → List ℕ
grid_after a before = after (λ (grid : Extents). grid.x ∷ grid.y ∷ grid.z ∷ []) (grid_result a) before

unfoldable pub key_after : Answer ℕ → ℕ → ℕ
key_after a before = after (λ (key : ℕ). key) (key_result a) before

unfoldable pub cell_after : Answer Cell → List ℕ → List ℕ
cell_after a before = after (λ (cell : Cell). cell.x ∷ cell.y ∷ cell.z ∷ []) (cell_result a) before

unfoldable pub begin_after : Answer Bounds → List ℤ → List ℤ
begin_after a before = after (λ (b : Bounds). b.begin.x ∷ b.begin.y ∷ b.begin.z ∷ []) (bounds_result a) before

unfoldable pub end_after : Answer Bounds → List ℤ → List ℤ
end_after a before = after (λ (b : Bounds). b.end.x ∷ b.end.y ∷ b.end.z ∷ []) (bounds_result a) before
