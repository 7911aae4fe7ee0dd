-- A row of cells: x from one number up to another, that end excluded, at one y and z.
use Rattle.std.specs.Prelude.{ℕ, zero, suc, ◌-◌, List, [], ◌∷◌}
use Rattle.morton.specs.declared.grid.Cell.{Cell}

-- n cells from x on
unfoldable pub cells_from : ℕ → ℕ → ℕ → ℕ → List Cell
cells_from zero x y z = []
cells_from (suc n) x y z = record { x = x; y = y; z = z } ∷ cells_from n (suc x) y z

-- a row whose end is not past its begin has no cell (RULES G9)
abbrev pub row_of : ℕ → ℕ → ℕ → ℕ → List Cell
row_of from to y z = cells_from (to - from) from y z
