-- The fault of one minishard.
use Rattle.shard.proofs.Whole.{own-fault}
use Rattle.shard.proofs.judge.judge.Goals as goal

pub returns : goal.returns
returns c = search own-fault
