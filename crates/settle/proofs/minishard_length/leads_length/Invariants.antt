use Rattle.settle.proofs.minishard_length.Lengths.{Leading}
use Rattle.settle.proofs.minishard_length.leads_length.Given as goal

abbrev pub invariant-loop-i : goal.invariant-loop-i
invariant-loop-i l = Leading l.spec l.data l.s l.n l.i l.from l.sum
