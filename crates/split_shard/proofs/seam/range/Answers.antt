use Rattle.split_shard.proofs.seam.Ranges.{asking}
use Rattle.split_shard.proofs.seam.range.Goals as goal

pub is_allowed-requires : goal.is_allowed-requires
is_allowed-requires c = search asking

pub returns-then-not-is_allowed : goal.returns-then-not-is_allowed
returns-then-not-is_allowed c = search asking

pub length_number-number-requires : goal.length_number-number-requires
length_number-number-requires c = search asking

pub returns-then-number-ne0 : goal.returns-then-number-ne0
returns-then-number-ne0 c = search asking

pub overflow_add-index : goal.overflow_add-index
overflow_add-index c = search asking

pub held-requires : goal.held-requires
held-requires c = search asking

pub returns : goal.returns
returns c = search asking
