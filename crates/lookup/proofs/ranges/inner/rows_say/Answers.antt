-- What a minishard index says: its length, then judged, then searched.
use Rattle.lookup.proofs.ranges.WaysOut.{pointed_allowed, pointed_below, rows_whole, rows_short, room-short, at-short, rows_wrong, rows-faulty, rows_passed, rows-found}
use Rattle.lookup.proofs.ranges.inner.rows_say.Goals as goal

pub returns-then-other_length : goal.returns-then-other_length
returns-then-other_length c = search rows_wrong

pub index_length-base-requires : goal.index_length-base-requires
index_length-base-requires c = search pointed_allowed

pub overflow_sub-room : goal.overflow_sub-room
overflow_sub-room c = search pointed_below

pub minishard_of-requires : goal.minishard_of-requires
minishard_of-requires c = search pointed_allowed

pub rows_fault-fault-requires : goal.rows_fault-fault-requires
rows_fault-fault-requires c = record { spec_value = search pointed_allowed; n_in_bounds = (search rows_whole, search rows_short, search room-short, search at-short) }

pub returns-then-fault-ne0 : goal.returns-then-fault-ne0
returns-then-fault-ne0 c = search rows-faulty

pub find_row-requires : goal.find_row-requires
find_row-requires c = search rows_passed

pub returns : goal.returns
returns c = search rows-found
