-- The check of a pair: 1, 5, 23, 6, then its minishards.
use Rattle.split_shard.proofs.Answers.{checking}
use Rattle.split_shard.proofs.check.Goals as goal

pub is_allowed-requires : goal.is_allowed-requires
is_allowed-requires c = search checking

pub returns-then-not-is_allowed : goal.returns-then-not-is_allowed
returns-then-not-is_allowed c = search checking

pub shard_count-requires : goal.shard_count-requires
shard_count-requires c = search checking

pub returns-then-shard_count-shard : goal.returns-then-shard_count-shard
returns-then-shard_count-shard c = search checking

pub length_number-number-requires : goal.length_number-number-requires
length_number-number-requires c = search checking

pub returns-then-number-ne0 : goal.returns-then-number-ne0
returns-then-number-ne0 c = search checking

pub minishard_count-requires : goal.minishard_count-requires
minishard_count-requires c = search checking

pub first_fault-found-requires : goal.first_fault-found-requires
first_fault-found-requires c = record { spec_value = search checking; index_len = (search checking, search checking, search checking) }

pub returns-then-found-eq0 : goal.returns-then-found-eq0
returns-then-found-eq0 c = search checking

pub returns : goal.returns
returns c = search checking
