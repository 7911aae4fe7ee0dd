use Rattle.std.proofs.Common.{◌-◌}
use Rattle.unlisted.proofs.Judging.{JudgingAt}
use Rattle.unlisted.proofs.checked_walk.judge_all.Given as goal

abbrev pub invariant-loop-m : goal.invariant-loop-m
invariant-loop-m l = JudgingAt l.spec l.shard l.index l.data l.n l.m l.at

abbrev pub decreases-loop-m : goal.decreases-loop-m
decreases-loop-m l = l.n - l.m
