use mathlib.Core.Bool.{not}
use mathlib.Core.Path.{ap}
use native.Mathlib.Omega.{arith}
use Rattle.morton.proofs.batch.Threes.{one_outside, one_inside, all_looked}
use Rattle.morton.proofs.batch.all_inside.Goals as goal

pub returns-then-not-inside : goal.returns-then-not-inside
returns-then-not-inside c = one_outside _ c.args.cells.now _ c.cell_at.ensures c.inside.ensures c.loop-i.invariant (omega arith) (ap not c.if-not-inside.true)

pub loop-i-preserved : goal.loop-i-preserved
loop-i-preserved c = one_inside _ c.args.cells.now _ c.cell_at.ensures c.inside.ensures c.loop-i.invariant (omega arith) (ap not c.if-not-inside.false)

pub returns : goal.returns
returns c = all_looked _ c.args.cells.now c.loop-i.i c.loop-i.invariant (omega arith)
