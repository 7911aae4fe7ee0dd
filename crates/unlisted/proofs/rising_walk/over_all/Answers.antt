use Rattle.unlisted.proofs.rising_walk.Parts.{covering}
use Rattle.unlisted.proofs.rising_walk.over_all.Goals as goal

pub loop-m-init : goal.loop-m-init
loop-m-init c = search covering

pub over_minishard-at-requires : goal.over_minishard-at-requires
over_minishard-at-requires c = search covering

pub returns-then-at : goal.returns-then-at
returns-then-at c = search covering

pub loop-m-preserved : goal.loop-m-preserved
loop-m-preserved c = search covering

pub returns : goal.returns
returns c = search covering
