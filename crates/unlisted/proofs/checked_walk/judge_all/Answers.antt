use Rattle.unlisted.proofs.Judging.{judging}
use Rattle.unlisted.proofs.checked_walk.judge_all.Goals as goal

pub loop-m-init : goal.loop-m-init
loop-m-init c = search judging

pub returns-then-next-ne0 : goal.returns-then-next-ne0
returns-then-next-ne0 c = search judging

pub loop-m-preserved : goal.loop-m-preserved
loop-m-preserved c = search judging

pub returns : goal.returns
returns c = search judging
