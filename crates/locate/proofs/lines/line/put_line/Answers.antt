-- `locate::lines::line::put_line` meets its contract.
use Rattle.locate.proofs.lines.Printing.{lining}
use Rattle.locate.proofs.lines.line.put_line.Goals as goal

pub returns-then-not-inside : goal.returns-then-not-inside
returns-then-not-inside c = search lining

pub put_keyed-requires : goal.put_keyed-requires
put_keyed-requires c = search lining

pub returns : goal.returns
returns c = search lining
