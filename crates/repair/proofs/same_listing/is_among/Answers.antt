use Rattle.repair.proofs.same_listing.Entries.{seeking}
use Rattle.repair.proofs.same_listing.is_among.Goals as goal

pub loop-i-init : goal.loop-i-init
loop-i-init c = search seeking

pub returns-then-same_item : goal.returns-then-same_item
returns-then-same_item c = search seeking

pub loop-i-preserved : goal.loop-i-preserved
loop-i-preserved c = search seeking

pub returns : goal.returns
returns c = search seeking
