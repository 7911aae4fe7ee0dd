-- `morton::keys::cell_of` meets its contract.
use Rattle.morton.proofs.grid.Ways.{tested}
use Rattle.morton.proofs.Ways.{few-counted, cell_2, cell_3, cell_4_key, cell_4_cell, cell-yes}
use Rattle.morton.proofs.keys.cell_of.Goals as goal

pub returns-then-zero_extent : goal.returns-then-zero_extent
returns-then-zero_extent c = search cell_2

pub grid-grid-requires : goal.grid-grid-requires
grid-grid-requires c = search tested

pub returns-then-too_many_bits : goal.returns-then-too_many_bits
returns-then-too_many_bits c = search cell_3

pub reaches_past-requires : goal.reaches_past-requires
reaches_past-requires c = search few-counted

pub returns-then-reaches_past : goal.returns-then-reaches_past
returns-then-reaches_past c = search cell_4_key

pub returns-then-not-inside : goal.returns-then-not-inside
returns-then-not-inside c = search cell_4_cell

pub returns : goal.returns
returns c = search cell-yes
