-- `locate::lines::line::put_ending` meets its contract.
use Rattle.locate.specs.lines.Lines.{ending}
use Rattle.locate.proofs.lines.Printing.{ended}
use Rattle.locate.proofs.lines.line.put_ending.Goals as goal

pub put_decimal-m-requires : goal.put_decimal-m-requires
unfolding ending
put_decimal-m-requires c = search ended

pub put_byte-requires : goal.put_byte-requires
unfolding ending
put_byte-requires c = search ended

pub overflow_add-result : goal.overflow_add-result
unfolding ending
overflow_add-result c = search ended

pub returns : goal.returns
unfolding ending
returns c = search ended
