use Rattle.coronagamba.proofs.Given.{measured}
use Rattle.coronagamba.proofs.Sheeted.{fitting}
use Rattle.coronagamba.proofs.sheets.coronagamba_measure.Goals as goal

pub put_counts-requires : goal.put_counts-requires
put_counts-requires c k m p h = (search fitting, search fitting)

pub returns : goal.returns
returns c = record { answer = search measured; counts = search measured }
