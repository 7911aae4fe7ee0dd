use Rattle.settle.proofs.sorted.Stepping.{Stepping}
use Rattle.settle.proofs.sorted.put_steps.Given as goal

abbrev pub invariant-loop-i : goal.invariant-loop-i
invariant-loop-i l = Stepping l.n l.initial.out l.q l.out l.i l.before
