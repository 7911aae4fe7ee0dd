use Rattle.std.proofs.Common.{rules}
use Rattle.unlisted.proofs.rising_walk.Parts.{part-some, picked_most}
use Rattle.unlisted.proofs.rising_walk.over_part.Goals as goal

pub over_items-at-requires : goal.over_items-at-requires
over_items-at-requires c = record { ranged = (search rules, search picked_most); gaps_le_to = search rules }

pub returns : goal.returns
returns c = search part-some
