-- The listing of a minishard, by its entry.
use Rattle.lookup.proofs.entries.Reading.{read-order, read-entries, read-room, read-listing, read-empty}
use Rattle.lookup.proofs.entries.put_listing.Goals as goal

pub returns-then-s-e : goal.returns-then-s-e
returns-then-s-e c = search read-empty

pub overflow_sub-n : goal.overflow_sub-n
overflow_sub-n c = search read-order

pub put_entries-requires : goal.put_entries-requires
put_entries-requires c = (search read-entries, search read-room)

pub returns : goal.returns
returns c = search read-listing
