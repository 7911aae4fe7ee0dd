use Rattle.lookup_table.proofs.WaysOut.{tabling}
use Rattle.lookup_table.proofs.filling.write_table.Goals as goal

pub returns : goal.returns
returns c = search tabling
