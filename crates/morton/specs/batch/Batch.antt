-- The keys of many cells in one call: where nothing is refused, those that each cell has alone.
use Rattle.std.specs.Prelude.{ℕ, ◌+◌, Bool, true, not, ◌&&◌, ◌||◌, List, [], ◌∷◌, map, length, get_or, Ok}
use Rattle.refusal.specs.Checks.{Check, check, answered, left}
use Rattle.refusal.specs.Buffer.{room, over}
use Rattle.refusal.specs.Answers.{Answer, refuse}
use Rattle.morton.specs.declared.grid.Volume.{Volume}
use Rattle.morton.specs.declared.grid.Extents.{Extents}
use Rattle.morton.specs.declared.grid.Cell.{Cell}
use Rattle.morton.specs.grid.Grid.{grid_of, zero_extent, in_grid}
use Rattle.morton.specs.Key.{too_many_bits, key_of}

-- the cells of lent numbers, x, y and z of each in turn; one or two numbers left over are no cell (RULES G9)
unfoldable pub cells_of : List ℕ → List Cell
cells_of (x ∷ y ∷ z ∷ rest) = record { x = x; y = y; z = z } ∷ cells_of rest
cells_of (x ∷ y ∷ []) = []
cells_of (x ∷ []) = []
cells_of [] = []

-- the cell whose three numbers begin at p
abbrev pub cell_at : List ℕ → ℕ → Cell
cell_at numbers p = record { x = get_or numbers p 0; y = get_or numbers (p + 1) 0; z = get_or numbers (p + 2) 0 }

unfoldable pub each_in_grid : Extents → List Cell → Bool
each_in_grid grid [] = true
each_in_grid grid (c ∷ cells) = in_grid grid c && each_in_grid grid cells

unfoldable pub keys_of : Volume → List Cell → List ℕ
keys_of v cells = map (key_of (grid_of v)) cells

-- 2 and 3 as of one cell's key, 2 where any cell is outside; then 13 where the lent keys are fewer than the cells
unfoldable pub keys_checks : Volume → List Cell → List ℕ → List Check
keys_checks v cells keys =
    check 2 (zero_extent v || not (each_in_grid (grid_of v) cells))
    ∷ check 3 (too_many_bits (grid_of v))
    ∷ room (keys_of v cells) keys
    ∷ []

-- how many keys there are (RULES G9)
unfoldable pub keys_answer : Volume → List Cell → List ℕ → Answer ℕ
keys_answer v cells keys = answered refuse (keys_checks v cells keys) (Ok (length (keys_of v cells)))

-- what the lent keys then hold
unfoldable pub keys_left : Volume → List Cell → List ℕ → List ℕ
keys_left v cells keys = left (keys_checks v cells keys) (over (keys_of v cells) keys) keys
