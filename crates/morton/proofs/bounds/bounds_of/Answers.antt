-- `morton::bounds::bounds_of` meets its contract.
use Rattle.morton.proofs.grid.Ways.{tested}
use Rattle.morton.proofs.bounds.Ways.{bounds_2, bounds_2_cell, within-is, bounds-yes}
use Rattle.morton.proofs.bounds.bounds_of.Goals as goal

pub returns-then-zero_extent : goal.returns-then-zero_extent
returns-then-zero_extent c = search bounds_2

pub grid-requires : goal.grid-requires
grid-requires c = search tested

pub returns-then-not-inside : goal.returns-then-not-inside
returns-then-not-inside c = search bounds_2_cell

pub begin_point-begin-requires : goal.begin_point-begin-requires
begin_point-begin-requires c = search within-is

pub end_point-end-requires : goal.end_point-end-requires
end_point-end-requires c = search within-is

pub returns : goal.returns
returns c = search bounds-yes
