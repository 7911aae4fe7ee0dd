use Rattle.std.proofs.Common.{rules}
use Rattle.unlisted.proofs.Judging.{step-faulty, step-ordered, step_ranged, step-walk}
use Rattle.unlisted.proofs.checked_walk.step.Goals as goal

pub returns-then-found-ne0 : goal.returns-then-found-ne0
returns-then-found-ne0 c = search step-faulty

pub walk_on-next-requires : goal.walk_on-next-requires
walk_on-next-requires c = record { s_le_e = (search step-ordered, search step_ranged); gaps_le_to = search rules }

pub returns : goal.returns
returns c = search step-walk
