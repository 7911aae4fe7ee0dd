-- `morton::axis::axis_bits` meets its contract.
use lib.Count.{leading_le}
use native.Mathlib.Omega.{arith}
use borrow.Author.Rules.{rules}
use Rattle.morton.proofs.axis.Used.{no_axis_bits, axis_bits-found}
use Rattle.morton.proofs.axis.axis_bits.Goals as goal

pub returns-then-g-eq0 : goal.returns-then-g-eq0
returns-then-g-eq0 c = no_axis_bits _ (search rules)

pub overflow_sub-result-2 : goal.overflow_sub-result-2
overflow_sub-result-2 c = leading_le 32 _

pub returns : goal.returns
returns c = axis_bits-found _ (omega arith) (omega arith)
