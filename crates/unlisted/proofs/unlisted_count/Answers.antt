use Rattle.unlisted.proofs.Counted.{answering}
use Rattle.unlisted.proofs.unlisted_count.Goals as goal

pub is_allowed-requires : goal.is_allowed-requires
is_allowed-requires c = search answering

pub returns-then-not-is_allowed : goal.returns-then-not-is_allowed
returns-then-not-is_allowed c = search answering

pub shard_count-requires : goal.shard_count-requires
shard_count-requires c = search answering

pub returns-then-shard_count-shard : goal.returns-then-shard_count-shard
returns-then-shard_count-shard c = search answering

pub index_length-requires : goal.index_length-requires
index_length-requires c = search answering

pub returns-then-file-index_length : goal.returns-then-file-index_length
returns-then-file-index_length c = search answering

pub returns-then-file-gt-MOST_SHARD_BYTES : goal.returns-then-file-gt-MOST_SHARD_BYTES
returns-then-file-gt-MOST_SHARD_BYTES c = search answering

pub counted_file-found-requires : goal.counted_file-found-requires
counted_file-found-requires c = record { spec_value = search answering; spec_in_bounds = search answering }

pub returns-then-found-eq0 : goal.returns-then-found-eq0
returns-then-found-eq0 c = search answering

pub returns : goal.returns
returns c = search answering
