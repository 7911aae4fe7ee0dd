use Rattle.locate.proofs.lines.Printing.{looping}
use Rattle.locate.proofs.lines.cells.put_planned.Goals as goal

pub loop-i-preserved : goal.loop-i-preserved
loop-i-preserved c = (search looping, search looping, search looping, search looping, search looping)

pub returns : goal.returns
returns c = record { value = (search looping, search looping); out_after = search looping }
