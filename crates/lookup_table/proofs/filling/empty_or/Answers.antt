use Rattle.lookup_table.proofs.WaysOut.{emptying}
use Rattle.lookup_table.proofs.filling.empty_or.Goals as goal

pub returns-then-number-eq12 : goal.returns-then-number-eq12
returns-then-number-eq12 c = search emptying

pub returns : goal.returns
returns c = search emptying
