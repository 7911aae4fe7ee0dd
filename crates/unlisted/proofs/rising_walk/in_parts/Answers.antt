use Rattle.std.proofs.Common.{rules}
use Rattle.unlisted.proofs.rising_walk.Parts.{sums_none, tells-rows, tells_items}
use Rattle.unlisted.proofs.rising_walk.in_parts.Goals as goal

pub over_all-rows-requires : goal.over_all-rows-requires
over_all-rows-requires c = record { ranged_shard = search rules; gaps_le_to = search sums_none }

pub returns-then-before : goal.returns-then-before
returns-then-before c = (search rules, search tells-rows)

pub over_all-items-requires : goal.over_all-items-requires
over_all-items-requires c = record { ranged_shard = search rules; gaps_le_to = search sums_none }

pub returns : goal.returns
returns c = (search rules, search tells_items)
