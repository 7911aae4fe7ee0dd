-- `morton::scan::row::row_keys` meets its contract: each way out is a check's number, or none.
use native.Mathlib.Omega.{arith}
use borrow.Author.Rules.{rules}
use Rattle.morton.proofs.grid.Ways.{tested}
use Rattle.morton.proofs.Ways.{few}
use Rattle.morton.proofs.batch.Threes.{keys-refused, keys_kept_lem, keys-over}
use Rattle.morton.proofs.rows.Rows.{row_2_extent, row_2_cell, row_3, row_13, row_0, too_short, long-enough, room, row_written}
use Rattle.morton.proofs.scan.row.row_keys.Goals as goal

ruleset short = (row_13, too_short, rules)

ruleset enough = (row_0, long-enough, room, rules)

pub returns-then-zero_extent : goal.returns-then-zero_extent
returns-then-zero_extent c = record { answer = keys-refused _ _ _ 2 (omega arith) (search row_2_extent); keys = keys_kept_lem _ _ _ 2 (omega arith) (search row_2_extent) }

pub grid-grid-requires : goal.grid-grid-requires
grid-grid-requires c = search tested

pub returns-then-not-row_inside : goal.returns-then-not-row_inside
returns-then-not-row_inside c = record { answer = keys-refused _ _ _ 2 (omega arith) (search row_2_cell); keys = keys_kept_lem _ _ _ 2 (omega arith) (search row_2_cell) }

pub returns-then-too_many_bits : goal.returns-then-too_many_bits
returns-then-too_many_bits c = record { answer = keys-refused _ _ _ 3 (omega arith) (search row_3); keys = keys_kept_lem _ _ _ 3 (omega arith) (search row_3) }

pub returns-then-keys-row_length : goal.returns-then-keys-row_length
returns-then-keys-row_length c = record { answer = keys-refused _ _ _ 13 (omega arith) (search short); keys = keys_kept_lem _ _ _ 13 (omega arith) (search short) }

pub fill_row-requires : goal.fill_row-requires
fill_row-requires c = record { key_fits = search few; room = search enough }

pub returns : goal.returns
returns c = record { answer = search (row_written, enough); keys = search (keys-over, enough) }
