-- `morton::axis::low_bit` meets its contract.
use lib.Pow.{shl_exact}
use native.Mathlib.Omega.{arith}
use Rattle.morton.specs.axis.Axis.{low}
use borrow.Author.Rules.{rules}
use Rattle.morton.proofs.axis.low_bit.Goals as goal

pub uses-requires : goal.uses-requires
uses-requires c = search rules

pub overflow_cast-result : goal.overflow_cast-result
overflow_cast-result c = search rules

pub overflow_shl-result : goal.overflow_shl-result
overflow_shl-result c = search rules

pub returns-then-uses : goal.returns-then-uses
unfolding low
returns-then-uses c = rw (← c.uses.ensures, c.if-uses.true) (shl_exact 1 _ 32 (omega arith) (omega arith))

pub returns-else-uses : goal.returns-else-uses
unfolding low
returns-else-uses c = rw (← c.uses.ensures, c.if-uses.false) (omega arith)
