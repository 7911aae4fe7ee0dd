-- The second call.
use Rattle.std.proofs.Common.{rules}
use Rattle.lookup.proofs.ranges.WaysOut.{told, second-refused, second_wrong, second_says}
use Rattle.lookup.proofs.ranges.index_range.Goals as goal

pub returns-then-number-ne0 : goal.returns-then-number-ne0
returns-then-number-ne0 c = search second-refused

pub returns-then-other_length : goal.returns-then-other_length
returns-then-other_length c = search second_wrong

pub entry_says-requires : goal.entry_says-requires
entry_says-requires c = (search rules, search told)

pub returns : goal.returns
returns c = search second_says
