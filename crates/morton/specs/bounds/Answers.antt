-- What `bounds_of` answers: its check (RULES G2), or else where the cell lies.
use Rattle.std.specs.Prelude.{List, [], ◌∷◌, Ok, Err}
use Rattle.refusal.specs.Checks.{Check, check, answered}
use Rattle.refusal.specs.Result.{Result, success, refused}
use Rattle.morton.specs.declared.grid.Volume.{Volume}
use Rattle.morton.specs.declared.grid.Cell.{Cell}
use Rattle.morton.specs.grid.Answers.{no_cell}
use Rattle.refusal.specs.Answers.{Answer, refuse}
use Rattle.refusal.specs.Table.{number_of}
use Rattle.morton.specs.declared.bounds.Bounds.{Bounds}
use Rattle.morton.specs.bounds.Bounds.{bounds_of}

unfoldable pub bounds_checks : Volume → Cell → List Check
bounds_checks v c = check 2 (no_cell v c) ∷ []

unfoldable pub bounds_answer : Volume → Cell → Answer Bounds
bounds_answer v c = answered refuse (bounds_checks v c) (Ok (bounds_of v c))

abbrev pub bounds_result : Answer Bounds → Result Bounds
bounds_result (Ok bounds) = success bounds
bounds_result (Err k) = refused (number_of k)
