use mathlib.Core.Bool.{not}
use mathlib.Core.Path.{ap}
use Rattle.repair.proofs.same_listing.Entries.{stepping_next, stepping}
use Rattle.repair.proofs.same_listing.in_step.Goals as goal

pub loop-i-init : goal.loop-i-init
loop-i-init c = search stepping

pub returns-then-not-same_item : goal.returns-then-not-same_item
returns-then-not-same_item c = search stepping

pub loop-i-preserved : goal.loop-i-preserved
loop-i-preserved c = stepping_next c.loop-i.invariant c.read_entry-one.ensures c.read_entry-other.ensures c.same_item.ensures (ap not c.if-not-same_item.false)
