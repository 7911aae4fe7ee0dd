-- What an entry says, test after test.
use Rattle.lookup.proofs.ranges.Passing.{call_allowed}
use Rattle.lookup.proofs.ranges.WaysOut.{entry-readable, place-fits, base_below, entry-before, entry-empty, entry_past, entry_ragged, entry-names}
use Rattle.lookup.proofs.ranges.inner.entry_says.Goals as goal

pub minishard_of-position-requires : goal.minishard_of-position-requires
minishard_of-position-requires c = search call_allowed

pub overflow_mul-position : goal.overflow_mul-position
overflow_mul-position c = search place-fits

pub index_length-base-requires : goal.index_length-base-requires
index_length-base-requires c = search call_allowed

pub entry_start-s-requires : goal.entry_start-s-requires
entry_start-s-requires c = search entry-readable

pub entry_end-e-requires : goal.entry_end-e-requires
entry_end-e-requires c = search entry-readable

pub returns-then-e-s : goal.returns-then-e-s
returns-then-e-s c = search entry-before

pub returns-then-s-e : goal.returns-then-s-e
returns-then-s-e c = search entry-empty

pub overflow_sub-len : goal.overflow_sub-len
overflow_sub-len c = search base_below

pub returns-then-len-base : goal.returns-then-len-base
returns-then-len-base c = search entry_past

pub returns-then-e-s-ne0 : goal.returns-then-e-s-ne0
returns-then-e-s-ne0 c = search entry_ragged

pub returns : goal.returns
returns c = search entry-names
