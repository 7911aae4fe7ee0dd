use Rattle.coronagamba.proofs.Given.{counted}
use Rattle.coronagamba.proofs.Paired.{fitting}
use Rattle.coronagamba.proofs.pairs.coronagamba_pair_listing.Goals as goal

pub put_count-requires : goal.put_count-requires
put_count-requires c = search fitting

pub returns : goal.returns
returns c = record { answer = search counted; out = search counted; length = search counted }
