use Rattle.intake.proofs.waiting.Writing.{PutsSteps}
use Rattle.intake.proofs.waiting.put_steps.Given as goal

abbrev pub invariant-loop-i : goal.invariant-loop-i
invariant-loop-i l = PutsSteps l.waiting l.n l.at l.initial.out l.out l.i l.before
