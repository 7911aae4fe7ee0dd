-- Refusal 2 of a cell, and what the grid of a volume answers: its check (RULES R2), or else the result.
use Rattle.std.specs.Prelude.{Bool, not, ◌||◌, List, [], ◌∷◌, Ok, Err}
use Rattle.refusal.specs.Checks.{Check, check, answered}
use Rattle.refusal.specs.Result.{Result, success, refused}
use Rattle.morton.specs.declared.grid.Volume.{Volume}
use Rattle.morton.specs.declared.grid.Extents.{Extents}
use Rattle.morton.specs.declared.grid.Cell.{Cell}
use Rattle.refusal.specs.Answers.{Answer, refuse}
use Rattle.refusal.specs.Table.{number_of}
use Rattle.morton.specs.grid.Grid.{grid_of, zero_extent, in_grid}

-- refusal 2: "a volume or chunk extent is 0, or a cell coordinate is not below its grid size" (RULES G2)
unfoldable pub no_cell : Volume → Cell → Bool
no_cell v c = zero_extent v || not (in_grid (grid_of v) c)

-- ---- the grid of a volume

unfoldable pub grid_checks : Volume → List Check
grid_checks v = check 2 (zero_extent v) ∷ []

unfoldable pub grid_answer : Volume → Answer Extents
grid_answer v = answered refuse (grid_checks v) (Ok (grid_of v))

abbrev pub grid_result : Answer Extents → Result Extents
grid_result (Ok grid) = success grid
grid_result (Err k) = refused (number_of k)
