use Rattle.holdings.proofs.one_shard.Rows.{emptying}
use Rattle.holdings.proofs.one_shard.empty.Goals as goal

pub returns : goal.returns
returns c = search emptying
