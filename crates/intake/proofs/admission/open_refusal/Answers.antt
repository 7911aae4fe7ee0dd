use Rattle.intake.proofs.admission.Tested.{refusing}
use Rattle.intake.proofs.admission.open_refusal.Goals as goal

pub is_not_volume-requires : goal.is_not_volume-requires
is_not_volume-requires c = search refusing

pub returns-then-is_not_volume : goal.returns-then-is_not_volume
returns-then-is_not_volume c = search refusing

pub shard_count-requires : goal.shard_count-requires
shard_count-requires c = search refusing

pub returns-then-shard_count-shard : goal.returns-then-shard_count-shard
returns-then-shard_count-shard c = search refusing

pub most_bytes-requires : goal.most_bytes-requires
most_bytes-requires c = search refusing

pub index_length-requires : goal.index_length-requires
index_length-requires c = search refusing

pub returns-then-most_bytes-index_length : goal.returns-then-most_bytes-index_length
returns-then-most_bytes-index_length c = search refusing

pub returns : goal.returns
returns c = search refusing
