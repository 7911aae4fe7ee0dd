use Rattle.cover.proofs.halves.Ways.{cutting}
use Rattle.cover.proofs.halves.cut_box.Goals as goal

pub owner-own-requires : goal.owner-own-requires
owner-own-requires c = search cutting

pub first_above-requires : goal.first_above-requires
first_above-requires c = search cutting
