-- The whole-shard check: the refusals of a call, then the first fault.
use Rattle.std.proofs.Common.{rules}
use Rattle.refusal.proofs.Tests.{told-yes}
use Rattle.shard.proofs.WholeAnswers.{check_disallowed, check-shard, check-short, check-long, check_sound, check-fault}
use Rattle.shard.proofs.checking.check.Goals as goal

pub returns-then-not-is_allowed : goal.returns-then-not-is_allowed
returns-then-not-is_allowed c = search check_disallowed

pub shard_count-requires : goal.shard_count-requires
shard_count-requires c = search told-yes

pub returns-then-shard_count-shard : goal.returns-then-shard_count-shard
returns-then-shard_count-shard c = search check-shard

pub index_length-requires : goal.index_length-requires
index_length-requires c = search told-yes

pub returns-then-file-index_length : goal.returns-then-file-index_length
returns-then-file-index_length c = search check-short

pub returns-then-file-gt-MOST_SHARD_BYTES : goal.returns-then-file-gt-MOST_SHARD_BYTES
returns-then-file-gt-MOST_SHARD_BYTES c = search check-long

pub first_fault_in-found-requires : goal.first_fault_in-found-requires
first_fault_in-found-requires c = record { spec_value = search told-yes; spec_in_bounds = (search rules, search rules) }

pub returns-then-found-eq0 : goal.returns-then-found-eq0
returns-then-found-eq0 c = search check_sound

pub returns : goal.returns
returns c = search check-fault
