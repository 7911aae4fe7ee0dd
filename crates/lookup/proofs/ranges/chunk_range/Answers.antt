-- The third call goes on from the second.
use Rattle.lookup.proofs.ranges.Passing.{pointed_by}
use Rattle.lookup.proofs.ranges.WaysOut.{third_says, third-refused, third-faulty}
use Rattle.lookup.proofs.ranges.chunk_range.Goals as goal

pub rows_say-requires : goal.rows_say-requires
rows_say-requires c = search pointed_by

pub returns-in-Found : goal.returns-in-Found
returns-in-Found c = search third_says

pub returns-in-Refused : goal.returns-in-Refused
returns-in-Refused c = search third-refused

pub returns-in-Faulty : goal.returns-in-Faulty
returns-in-Faulty c = search third-faulty
