-- Test 10 of an id, from its place.
use Rattle.shard.proofs.Walks.{foreign-place}
use Rattle.shard.proofs.faults.is_foreign.Goals as goal

pub returns : goal.returns
returns c = search foreign-place
