-- `morton::grid::sizes::grid_of` meets its contract.
use Rattle.morton.proofs.grid.Ways.{tested, grid_2, grid-yes}
use Rattle.morton.proofs.grid.sizes.grid_of.Goals as goal

pub returns-then-zero_extent : goal.returns-then-zero_extent
returns-then-zero_extent c = search grid_2

pub grid-requires : goal.grid-requires
grid-requires c = search tested

pub returns : goal.returns
returns c = search grid-yes
