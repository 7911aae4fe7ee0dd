-- The position is the sum.
use Rattle.shard.proofs.faults.row_fault.Goals as goal

pub returns : goal.returns
returns c = cc
