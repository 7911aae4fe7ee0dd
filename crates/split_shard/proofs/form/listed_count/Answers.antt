-- The count of a listing: 1, 5, 33, 23, 6, then over the two files.
use Rattle.split_shard.proofs.form.Listed.{counting}
use Rattle.split_shard.proofs.form.listed_count.Goals as goal

pub is_allowed-requires : goal.is_allowed-requires
is_allowed-requires c = search counting

pub returns-then-not-is_allowed : goal.returns-then-not-is_allowed
returns-then-not-is_allowed c = search counting

pub shard_count-requires : goal.shard_count-requires
shard_count-requires c = search counting

pub returns-then-shard_count-shard : goal.returns-then-shard_count-shard
returns-then-shard_count-shard c = search counting

pub minishard_count-requires : goal.minishard_count-requires
minishard_count-requires c = search counting

pub returns-then-minishard_count-minishard : goal.returns-then-minishard_count-minishard
returns-then-minishard_count-minishard c = search counting

pub length_number-number-requires : goal.length_number-number-requires
length_number-number-requires c = search counting

pub returns-then-number-ne0 : goal.returns-then-number-ne0
returns-then-number-ne0 c = search counting

pub count_parts-requires : goal.count_parts-requires
count_parts-requires c = record { spec_value = search counting; index_len = (search counting, search counting); m_bound = search counting }

pub returns : goal.returns
returns c = search counting
