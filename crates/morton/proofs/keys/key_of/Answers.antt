-- `morton::keys::key_of` meets its contract.
use Rattle.morton.proofs.grid.Ways.{tested}
use Rattle.morton.proofs.Ways.{few, key_2, key_2_cell, key_3, key-yes}
use Rattle.morton.proofs.keys.key_of.Goals as goal

pub returns-then-zero_extent : goal.returns-then-zero_extent
returns-then-zero_extent c = search key_2

pub grid-grid-requires : goal.grid-grid-requires
grid-grid-requires c = search tested

pub returns-then-not-inside : goal.returns-then-not-inside
returns-then-not-inside c = search key_2_cell

pub returns-then-too_many_bits : goal.returns-then-too_many_bits
returns-then-too_many_bits c = search key_3

pub key-requires : goal.key-requires
key-requires c = search few

pub returns : goal.returns
returns c = search key-yes
