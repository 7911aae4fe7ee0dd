-- The lookup in a pair: 1, 5, 23, 6, then over its two files.
use Rattle.split_shard.proofs.Answers.{looking}
use Rattle.split_shard.proofs.lookup.Goals as goal

pub is_allowed-requires : goal.is_allowed-requires
is_allowed-requires c = search looking

pub returns-then-not-is_allowed : goal.returns-then-not-is_allowed
returns-then-not-is_allowed c = search looking

pub shard_count-requires : goal.shard_count-requires
shard_count-requires c = search looking

pub returns-then-shard_count-shard : goal.returns-then-shard_count-shard
returns-then-shard_count-shard c = search looking

pub shard_of-requires : goal.shard_of-requires
shard_of-requires c = search looking

pub returns-then-shard_of-shard : goal.returns-then-shard_of-shard
returns-then-shard_of-shard c = search looking

pub length_number-number-requires : goal.length_number-number-requires
length_number-number-requires c = search looking

pub returns-then-number-ne0 : goal.returns-then-number-ne0
returns-then-number-ne0 c = search looking

pub lookup_in-requires : goal.lookup_in-requires
lookup_in-requires c = record { spec_value = search looking; index_len = (search looking, search looking) }

pub returns : goal.returns
returns c = search looking
