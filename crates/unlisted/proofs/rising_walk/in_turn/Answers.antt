use Rattle.std.proofs.Common.{rules}
use Rattle.unlisted.proofs.rising_walk.Parts.{sums_none, tells-each}
use Rattle.unlisted.proofs.rising_walk.in_turn.Goals as goal

pub over_all-requires : goal.over_all-requires
over_all-requires c = record { ranged_shard = search rules; gaps_le_to = search sums_none }

pub returns : goal.returns
returns c = (search rules, search tells-each)
