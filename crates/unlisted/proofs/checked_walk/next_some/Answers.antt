use Rattle.unlisted.proofs.Judging.{skipping}
use Rattle.unlisted.proofs.checked_walk.next_some.Goals as goal

pub loop-j-init : goal.loop-j-init
loop-j-init c = search skipping

pub returns-then-entry_start-entry_end : goal.returns-then-entry_start-entry_end
returns-then-entry_start-entry_end c = search skipping

pub loop-j-preserved : goal.loop-j-preserved
loop-j-preserved c = search skipping

pub returns : goal.returns
returns c = search skipping
