use Rattle.repair.proofs.same_listing.Entries.{covering}
use Rattle.repair.proofs.same_listing.all_among.Goals as goal

pub loop-i-init : goal.loop-i-init
loop-i-init c = search covering

pub returns-then-not-is_among : goal.returns-then-not-is_among
returns-then-not-is_among c = search covering

pub loop-i-preserved : goal.loop-i-preserved
loop-i-preserved c = search covering
