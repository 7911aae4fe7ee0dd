-- A minishard index: its length, then judged, then written.
use Rattle.std.proofs.Common.{rules}
use Rattle.lookup.proofs.ranges.WaysOut.{pointed_allowed, pointed_below, rows_whole, rows_short, room-short, at-short, rows_passed}
use Rattle.lookup_table.proofs.WaysOut.{wrong_says, wrong_holds, faulty_says, faulty-holds, rows-distinct, short_says, short-holds, filled_says, filled_holds}
use Rattle.lookup_table.proofs.filling.rows_fill.Goals as goal

pub returns-then-other_length : goal.returns-then-other_length
returns-then-other_length c = record { value = search wrong_says; out_after = search wrong_holds }

pub index_length-base-requires : goal.index_length-base-requires
index_length-base-requires c = search pointed_allowed

pub overflow_sub-room : goal.overflow_sub-room
overflow_sub-room c = search pointed_below

pub minishard_of-requires : goal.minishard_of-requires
minishard_of-requires c = search pointed_allowed

pub rows_fault-fault-requires : goal.rows_fault-fault-requires
rows_fault-fault-requires c = record { spec_value = search pointed_allowed; n_in_bounds = (search rows_whole, search rows_short, search room-short, search at-short) }

pub returns-then-fault-ne0 : goal.returns-then-fault-ne0
returns-then-fault-ne0 c = record { value = search faulty_says; out_after = search faulty-holds }

pub returns-then-out-n : goal.returns-then-out-n
returns-then-out-n c = record { value = search short_says; out_after = search short-holds }

pub write_table-requires : goal.write_table-requires
write_table-requires c = record { passed = search rows_passed; distinct = search rows-distinct; n_in_bounds = search rules }

pub returns : goal.returns
returns c = record { value = search filled_says; out_after = search filled_holds }
