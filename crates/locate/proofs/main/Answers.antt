use Rattle.locate.proofs.Handed.{handed}
use Rattle.locate.proofs.main.Goals as goal

pub locate_all-requires : goal.locate_all-requires
locate_all-requires c = search handed
