use Rattle.lookup_table.proofs.finding.Laws.{counted}
use Rattle.lookup_table.proofs.finding.entries_of.Goals as goal

pub returns : goal.returns
returns c = counted _ _ c.min.ensures
