use Rattle.shard.proofs.manifests.Walk.{walked_start, walked_turn, walked_end, ends-inside, data_short, end_fits}
use Rattle.shard.proofs.manifests.first_failed.Goals as goal

pub loop-i-init : goal.loop-i-init
loop-i-init c = search walked_start

pub chunk_number-number-requires : goal.chunk_number-number-requires
chunk_number-number-requires c = (search ends-inside, search data_short)

pub overflow_add-at : goal.overflow_add-at
overflow_add-at c = search end_fits

pub loop-i-preserved : goal.loop-i-preserved
loop-i-preserved c = search walked_turn

pub returns : goal.returns
returns c = search walked_end
