-- `locate::lines::cells::cell_at` meets its contract.
use borrow.Author.Rules.{rules}
use Rattle.locate.proofs.lines.Printing.{cell-made}
use Rattle.locate.proofs.lines.cells.cell_at.Goals as goal

pub returns : goal.returns
returns c = search (cell-made, rules)
