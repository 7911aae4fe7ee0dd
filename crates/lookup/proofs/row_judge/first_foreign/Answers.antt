use Rattle.shard.proofs.Walks.{walk_start, walk_end, ours-turn, ours_hit}
use Rattle.lookup.proofs.row_judge.first_foreign.Goals as goal

pub loop-j-init : goal.loop-j-init
loop-j-init c = walk_start _ _ _

pub returns-then-is_foreign : goal.returns-then-is_foreign
returns-then-is_foreign c = search ours_hit

pub loop-j-preserved : goal.loop-j-preserved
loop-j-preserved c = search ours-turn

pub returns : goal.returns
returns c = search walk_end
