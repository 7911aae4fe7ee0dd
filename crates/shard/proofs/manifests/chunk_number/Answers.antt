use Rattle.shard.proofs.manifests.Walk.{part-number}
use Rattle.shard.proofs.manifests.chunk_number.Goals as goal

pub returns : goal.returns
returns c = search part-number
