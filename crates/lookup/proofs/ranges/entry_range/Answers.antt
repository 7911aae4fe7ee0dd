-- The first call.
use Rattle.lookup.proofs.ranges.WaysOut.{first-allowed, first_fits, first-refused, first-named}
use Rattle.lookup.proofs.ranges.entry_range.Goals as goal

pub returns-then-number-ne0 : goal.returns-then-number-ne0
returns-then-number-ne0 c = search first-refused

pub minishard_of-requires : goal.minishard_of-requires
minishard_of-requires c = search first-allowed

pub overflow_mul-result : goal.overflow_mul-result
overflow_mul-result c = search first_fits

pub returns : goal.returns
returns c = search first-named
