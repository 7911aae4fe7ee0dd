use Rattle.coronagamba.proofs.Given.{looked}
use Rattle.coronagamba.proofs.Paired.{fitting}
use Rattle.coronagamba.proofs.pairs.coronagamba_pair_fragment.Goals as goal

pub put_found-requires : goal.put_found-requires
put_found-requires c = search fitting

pub returns : goal.returns
returns c = record { answer = search looked; start = search looked; length = search looked }
