use Rattle.std.proofs.Common.{rules}
use Rattle.unlisted.proofs.stretches.Covering.{read_ranged}
use Rattle.unlisted.proofs.rising_walk.Parts.{over_none, over-some}
use Rattle.unlisted.proofs.rising_walk.over_minishard.Goals as goal

pub returns-then-s-e : goal.returns-then-s-e
returns-then-s-e c = search over_none

pub over_part-requires : goal.over_part-requires
over_part-requires c = record { s_le_e = (search rules, search read_ranged); gaps_le_to = search rules }

pub returns : goal.returns
returns c = search over-some
