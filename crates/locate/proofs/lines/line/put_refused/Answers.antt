-- `locate::lines::line::put_refused` meets its contract.
use native.Mathlib.Omega.{arith}
use Rattle.locate.proofs.lines.Printing.{refusing, ending-small}
use Rattle.locate.proofs.lines.line.put_refused.Goals as goal

pub put_ending-requires : goal.put_ending-requires
put_ending-requires c =
    let number = c.args.number in
    omega (arith, ending-small number (omega arith))

pub returns : goal.returns
returns c = search (refusing, arith)
