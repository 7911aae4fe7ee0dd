use Rattle.shard.specs.Items.{item_of}
use Rattle.repair.proofs.same_listing.Entries.{Seeking}
use Rattle.repair.proofs.same_listing.is_among.Given as goal

abbrev pub invariant-loop-i : goal.invariant-loop-i
invariant-loop-i l = Seeking l.spec (item_of l.spec l.a l.one.id l.one.start l.one.size) l.b l.p l.n l.i l.before.id l.before.end
