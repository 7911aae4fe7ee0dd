-- The lines of cells that stand one after the other (RULES C7).
use Rattle.std.specs.Prelude.{ℕ, zero, suc, ◌+◌, List, [], ◌++◌}
use Rattle.endian.specs.Little.{le_at}
use Rattle.morton.specs.declared.grid.Cell.{Cell}

-- "cells of three u32"
unfoldable pub cell_at : List ℕ → ℕ → Cell
cell_at s p = record { x = le_at 4 s p; y = le_at 4 s (p + 4); z = le_at 4 s (p + 8) }

-- the lines of the n cells that stand in s from p on
unfoldable pub lines_by : (Cell → List ℕ) → ℕ → List ℕ → ℕ → List ℕ
lines_by line zero s p = []
lines_by line (suc n) s p = line (cell_at s p) ++ lines_by line n s (p + 12)
