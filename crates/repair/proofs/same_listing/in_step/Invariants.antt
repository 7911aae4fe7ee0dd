use Rattle.repair.proofs.same_listing.Entries.{Stepping}
use Rattle.repair.proofs.same_listing.in_step.Given as goal

abbrev pub invariant-loop-i : goal.invariant-loop-i
invariant-loop-i l = Stepping l.spec l.a l.p l.b l.s l.n l.i l.before.end l.beside.end l.before.id l.beside.id
