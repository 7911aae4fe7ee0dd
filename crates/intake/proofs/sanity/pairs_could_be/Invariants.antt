use Rattle.intake.proofs.sanity.Sharing.{Shares}
use Rattle.intake.proofs.sanity.pairs_could_be.Given as goal

abbrev pub invariant-loop-i : goal.invariant-loop-i
invariant-loop-i l = Shares l.state l.waiting l.i l.left
