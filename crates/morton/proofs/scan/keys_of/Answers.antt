-- `morton::scan::keys_of` meets its contract, which is that of `morton::scan::keys_of`: each way out is a check's number, or none.
use native.Mathlib.Omega.{arith}
use borrow.Author.Rules.{rules}
use Rattle.morton.proofs.grid.Ways.{tested}
use Rattle.morton.proofs.Ways.{few}
use Rattle.morton.proofs.batch.Threes.{keys_2_extent, keys_2_cell, keys_3, keys_13, keys_0, keys-refused, keys_kept_lem, written-cells, keys-over}
use Rattle.morton.proofs.scan.keys_of.Goals as goal

pub returns-then-zero_extent : goal.returns-then-zero_extent
returns-then-zero_extent c = record { answer = keys-refused _ _ _ 2 (omega arith) (search keys_2_extent); keys = keys_kept_lem _ _ _ 2 (omega arith) (search keys_2_extent) }

pub grid-grid-requires : goal.grid-grid-requires
grid-grid-requires c = search tested

pub returns-then-not-all_inside : goal.returns-then-not-all_inside
returns-then-not-all_inside c = record { answer = keys-refused _ _ _ 2 (omega arith) (search keys_2_cell); keys = keys_kept_lem _ _ _ 2 (omega arith) (search keys_2_cell) }

pub returns-then-too_many_bits : goal.returns-then-too_many_bits
returns-then-too_many_bits c = record { answer = keys-refused _ _ _ 3 (omega arith) (search keys_3); keys = keys_kept_lem _ _ _ 3 (omega arith) (search keys_3) }

pub returns-then-keys-cells : goal.returns-then-keys-cells
returns-then-keys-cells c = record { answer = keys-refused _ _ _ 13 (omega arith) (search (keys_13, rules)); keys = keys_kept_lem _ _ _ 13 (omega arith) (search (keys_13, rules)) }

pub fill_keys-requires : goal.fill_keys-requires
fill_keys-requires c = record { key_fits = search few; cells_in_bounds = search rules }

pub returns : goal.returns
returns c = record { answer = search (written-cells, keys_0, rules); keys = search (keys-over, keys_0, rules) }
