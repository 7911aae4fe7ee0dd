use Rattle.std.proofs.Common.{rules}
use Rattle.duplicate_ids.proofs.ids.Rises.{rising-start, rising-first, rising-later, rising-end, rising-all, fall_stays, fall_wraps}
use Rattle.duplicate_ids.proofs.ids.rising.Goals as goal
use Rattle.duplicate_ids.proofs.ids.rising.Goals.{else-i-gt0-via-then-i-gt0+else-step-eq0, else-i-gt0-via-else-i-gt0}

pub loop-i-init : goal.loop-i-init
loop-i-init c = rising-start _ _

pub returns-then-step-eq0 : goal.returns-then-step-eq0
returns-then-step-eq0 c = (search fall_stays, search rules, search rules)

pub returns-then-id-step : goal.returns-then-id-step
returns-then-id-step c = (search fall_wraps, search rules, search rules)

pub loop-i-preserved : goal.loop-i-preserved
loop-i-preserved c =
    elim c.else-i-gt0.branch [ else-i-gt0-via-then-i-gt0+else-step-eq0 w ↦ search rising-later | else-i-gt0-via-else-i-gt0 w ↦ search rising-first ]

pub returns : goal.returns
returns c = (search rising-all, search rules, search rising-end)
