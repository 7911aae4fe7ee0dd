-- `locate::text::blocks::put_cut` meets its contract.
use Rattle.locate.proofs.text.Printing.{cutting}
use Rattle.locate.proofs.text.blocks.put_cut.Goals as goal

pub returns : goal.returns
returns c = search cutting
