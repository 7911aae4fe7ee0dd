use Rattle.settle.proofs.as_it_stands.Climbing.{climbing}
use Rattle.settle.proofs.as_it_stands.ids_rise.Goals as goal

pub loop-i-init : goal.loop-i-init
loop-i-init c = search climbing

pub returns-then-next-id : goal.returns-then-next-id
returns-then-next-id c = search climbing

pub loop-i-preserved : goal.loop-i-preserved
loop-i-preserved c = search climbing
