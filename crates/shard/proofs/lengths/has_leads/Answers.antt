use Rattle.shard.proofs.Leads.{kind-told}
use Rattle.shard.proofs.lengths.has_leads.Goals as goal

pub returns : goal.returns
returns c = search kind-told
