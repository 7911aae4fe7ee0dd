use Rattle.settle.proofs.sorted.Stepping.{stepping}
use Rattle.settle.proofs.sorted.put_steps.Goals as goal

pub loop-i-preserved : goal.loop-i-preserved
loop-i-preserved c = search stepping

pub returns : goal.returns
returns c = search stepping
