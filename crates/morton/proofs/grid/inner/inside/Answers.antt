-- `morton::grid::inner::inside` meets its contract.
use Rattle.morton.proofs.grid.Ways.{out_x, out_y, in_z}
use Rattle.morton.proofs.grid.inner.inside.Goals as goal

pub returns-then-grid-cell : goal.returns-then-grid-cell
returns-then-grid-cell c = search out_x

pub returns-then-grid-cell-2 : goal.returns-then-grid-cell-2
returns-then-grid-cell-2 c = search out_y

pub returns : goal.returns
returns c = search in_z
