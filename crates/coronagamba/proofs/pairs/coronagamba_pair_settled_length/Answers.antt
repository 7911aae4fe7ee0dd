use Rattle.coronagamba.proofs.Given.{settled}
use Rattle.coronagamba.proofs.Paired.{fitting}
use Rattle.coronagamba.proofs.pairs.coronagamba_pair_settled_length.Goals as goal

pub put_count-requires : goal.put_count-requires
put_count-requires c = search fitting

pub returns : goal.returns
returns c = record { answer = search settled; length = search settled }
