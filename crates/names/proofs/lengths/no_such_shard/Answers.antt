use Rattle.names.proofs.Sharded.{telling}
use Rattle.names.proofs.lengths.no_such_shard.Goals as goal

pub shard_count-requires : goal.shard_count-requires
shard_count-requires c = search telling

pub returns : goal.returns
returns c = search telling
