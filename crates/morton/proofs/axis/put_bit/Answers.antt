-- `morton::axis::put_bit` meets its contract.
use native.Mathlib.Omega.{arith}
use Rattle.morton.specs.axis.Axis.{put, bit_of}
use Rattle.morton.proofs.axis.put_bit.Goals as goal

pub returns-then-uses : goal.returns-then-uses
unfolding put bit_of
returns-then-uses c = rw (← c.uses.ensures, c.if-uses.true) (omega arith)

pub returns-else-uses : goal.returns-else-uses
unfolding put
returns-else-uses c = rw (← c.uses.ensures, c.if-uses.false) (omega arith)
