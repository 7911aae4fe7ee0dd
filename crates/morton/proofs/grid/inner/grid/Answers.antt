-- `morton::grid::inner::grid` meets its contract.
use Rattle.morton.proofs.grid.Ways.{chunk-x, chunk-y, chunk-z, grid-made}
use Rattle.morton.proofs.grid.inner.grid.Goals as goal

pub grid_size-requires : goal.grid_size-requires
grid_size-requires c = search chunk-x

pub grid_size-requires-2 : goal.grid_size-requires-2
grid_size-requires-2 c = search chunk-y

pub grid_size-requires-3 : goal.grid_size-requires-3
grid_size-requires-3 c = search chunk-z

pub returns : goal.returns
returns c = search grid-made
