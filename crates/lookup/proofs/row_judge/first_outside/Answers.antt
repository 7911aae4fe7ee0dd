use Rattle.std.proofs.Common.{arith}
use Rattle.shard.proofs.Walks.{span-start, span-end, span-start-past, span-past, span-turn}
use Rattle.lookup.proofs.row_judge.first_outside.Goals as goal

pub loop-k-init : goal.loop-k-init
loop-k-init c = span-start _ _ _ _

pub returns-then-room-start : goal.returns-then-room-start
returns-then-room-start c = search span-start-past

pub returns-then-room-start-2 : goal.returns-then-room-start-2
returns-then-room-start-2 c = search span-past

pub overflow_add-end : goal.overflow_add-end
overflow_add-end c = omega arith

pub loop-k-preserved : goal.loop-k-preserved
loop-k-preserved c = search span-turn

pub returns : goal.returns
returns c = search span-end
