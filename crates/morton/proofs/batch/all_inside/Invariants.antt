-- `morton::batch::all_inside` meets its contract. The cells before i are inside.
use mathlib.Core.Path.{◌≡◌}
use lib.ListN.{drop}
use Rattle.morton.specs.batch.Batch.{cells_of, each_in_grid}
use Rattle.morton.proofs.batch.all_inside.Given as goal

abbrev pub invariant-loop-i : goal.invariant-loop-i
invariant-loop-i l = each_in_grid l.grid (cells_of l.cells) ≡ each_in_grid l.grid (drop l.i (cells_of l.cells))
