-- What each entry point answers: its checks in their fixed order (RULES R2), or else the result.
use Rattle.std.specs.Prelude.{ℕ, not, List, [], ◌∷◌, Ok, Err}
use Rattle.refusal.specs.Checks.{Check, check, answered}
use Rattle.refusal.specs.Result.{Result, success, refused}
use Rattle.morton.specs.declared.grid.Volume.{Volume}
use Rattle.morton.specs.declared.grid.Cell.{Cell}
use Rattle.morton.specs.grid.Grid.{grid_of, zero_extent}
use Rattle.morton.specs.grid.Answers.{no_cell}
use Rattle.refusal.specs.Answers.{Answer, refuse}
use Rattle.refusal.specs.Table.{number_of}
use Rattle.morton.specs.Key.{too_many_bits, key_of, cell_of, is_key}

-- ---- the key of a cell

unfoldable pub key_checks : Volume → Cell → List Check
key_checks v c = check 2 (no_cell v c) ∷ check 3 (too_many_bits (grid_of v)) ∷ []

unfoldable pub key_answer : Volume → Cell → Answer ℕ
key_answer v c = answered refuse (key_checks v c) (Ok (key_of (grid_of v) c))

abbrev pub key_result : Answer ℕ → Result ℕ
key_result (Ok key) = success key
key_result (Err k) = refused (number_of k)

-- ---- the cell of a key

unfoldable pub cell_checks : Volume → ℕ → List Check
cell_checks v key = check 2 (zero_extent v) ∷ check 3 (too_many_bits (grid_of v)) ∷ check 4 (not (is_key (grid_of v) key)) ∷ []

unfoldable pub cell_answer : Volume → ℕ → Answer Cell
cell_answer v key = answered refuse (cell_checks v key) (Ok (cell_of (grid_of v) key))

abbrev pub cell_result : Answer Cell → Result Cell
cell_result (Ok cell) = success cell
cell_result (Err k) = refused (number_of k)
