use Rattle.coronagamba.proofs.Given.{settled}
use Rattle.coronagamba.proofs.Checked.{fitting}
use Rattle.coronagamba.proofs.shards.coronagamba_settled_length.Goals as goal

pub put_count-requires : goal.put_count-requires
put_count-requires c = search fitting

pub returns : goal.returns
returns c = record { answer = search settled; length = search settled }
