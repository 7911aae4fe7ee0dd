use Rattle.repair.proofs.Troubles.{looking}
use Rattle.repair.proofs.copies.first_trouble.Goals as goal

pub loop-m-init : goal.loop-m-init
loop-m-init c = search looking

pub trouble_of-fault-requires : goal.trouble_of-fault-requires
trouble_of-fault-requires c = search looking

pub returns-then-fault-ne0 : goal.returns-then-fault-ne0
returns-then-fault-ne0 c = search looking

pub loop-m-preserved : goal.loop-m-preserved
loop-m-preserved c = search looking

pub returns : goal.returns
returns c = search looking
