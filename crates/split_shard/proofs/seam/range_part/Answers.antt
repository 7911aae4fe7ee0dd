use Rattle.split_shard.proofs.seam.Ranges.{handing}
use Rattle.split_shard.proofs.seam.range_part.Goals as goal

pub range-requires : goal.range-requires
range-requires c = search handing

pub held_part-requires : goal.held_part-requires
held_part-requires c = search handing

pub returns : goal.returns
returns c = search handing
