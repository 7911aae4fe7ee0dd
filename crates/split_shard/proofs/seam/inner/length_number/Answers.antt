use Rattle.split_shard.proofs.seam.Pairs.{measuring}
use Rattle.split_shard.proofs.seam.inner.length_number.Goals as goal

pub index_length-n-requires : goal.index_length-n-requires
index_length-n-requires c = search measuring

pub overflow_sub-long : goal.overflow_sub-long
overflow_sub-long c = search measuring

pub returns-then-ragged : goal.returns-then-ragged
returns-then-ragged c = search measuring

pub returns-then-long : goal.returns-then-long
returns-then-long c = search measuring

pub returns : goal.returns
returns c = search measuring
