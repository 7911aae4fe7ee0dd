use Rattle.intake.proofs.waiting.Writing.{PutsSizes}
use Rattle.intake.proofs.waiting.put_sizes.Given as goal

abbrev pub invariant-loop-i : goal.invariant-loop-i
invariant-loop-i l = PutsSizes l.waiting l.n l.at l.initial.out l.out l.i
