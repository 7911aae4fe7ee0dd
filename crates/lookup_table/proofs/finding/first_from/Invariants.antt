use Rattle.lookup_table.specs.finding.Halving.{Between}
use Rattle.lookup_table.proofs.finding.first_from.Given as goal

abbrev pub invariant-loop-len : goal.invariant-loop-len
invariant-loop-len l = Between l.table l.n l.id l.at l.len

abbrev pub decreases-loop-len : goal.decreases-loop-len
decreases-loop-len l = l.len
