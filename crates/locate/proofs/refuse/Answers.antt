use Rattle.locate.proofs.Handed.{handed}
use Rattle.locate.proofs.refuse.Goals as goal

pub returns : goal.returns
returns c = search handed
