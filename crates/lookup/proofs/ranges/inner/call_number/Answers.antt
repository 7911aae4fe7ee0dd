-- 1, 5 and 6, test after test.
use Rattle.refusal.proofs.Tests.{told-yes}
use Rattle.lookup.proofs.ranges.WaysOut.{number_spec, number-mesh, number-shard, number-other, number_short, number-long, number-none}
use Rattle.lookup.proofs.ranges.inner.call_number.Goals as goal

pub returns-then-not-is_allowed : goal.returns-then-not-is_allowed
returns-then-not-is_allowed c = search number_spec

pub returns-then-is_mesh : goal.returns-then-is_mesh
returns-then-is_mesh c = search number-mesh

pub shard_count-requires : goal.shard_count-requires
shard_count-requires c = search told-yes

pub returns-then-shard_count-shard : goal.returns-then-shard_count-shard
returns-then-shard_count-shard c = search number-shard

pub shard_of-requires : goal.shard_of-requires
shard_of-requires c = search told-yes

pub returns-then-shard_of-shard : goal.returns-then-shard_of-shard
returns-then-shard_of-shard c = search number-other

pub index_length-requires : goal.index_length-requires
index_length-requires c = search told-yes

pub returns-then-len-index_length : goal.returns-then-len-index_length
returns-then-len-index_length c = search number_short

pub returns-then-len : goal.returns-then-len
returns-then-len c = search number-long

pub returns : goal.returns
returns c = search number-none
