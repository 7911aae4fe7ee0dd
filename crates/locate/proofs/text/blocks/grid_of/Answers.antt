-- `locate::text::blocks::grid_of` meets its contract.
use Rattle.locate.proofs.text.Printing.{judged}
use Rattle.locate.proofs.text.blocks.grid_of.Goals as goal

pub grid-requires : goal.grid-requires
grid-requires c = search judged
