use Rattle.repair.proofs.same_listing.Entries.{Covering}
use Rattle.repair.proofs.same_listing.all_among.Given as goal

abbrev pub invariant-loop-i : goal.invariant-loop-i
invariant-loop-i l = Covering l.spec l.a l.p l.n l.b l.s l.k l.i l.before.id l.before.end
