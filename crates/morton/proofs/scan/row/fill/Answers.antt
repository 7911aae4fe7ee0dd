use native.Mathlib.Omega.{arith}
use borrow.Author.Rules.{rules}
use Rattle.morton.proofs.plan.Sums.{key-sum, key-sum-fits}
use Rattle.morton.proofs.rows.Rows.{low-row, row-start, row_next, row-end}
use Rattle.morton.proofs.scan.row.fill.Goals as goal

ruleset adding = (key-sum, key-sum-fits, low-row, rules)

pub loop-x-init : goal.loop-x-init
loop-x-init c = record { rest = search rules; left = row-start _ _ _ }

pub overflow_add-keys-in-loop-x : goal.overflow_add-keys-in-loop-x
overflow_add-keys-in-loop-x c = search adding

pub loop-x-preserved : goal.loop-x-preserved
loop-x-preserved c =
    record { rest = search rules; left = row_next _ _ _ _ _ _ _ c.loop-x.invariant.left (omega arith) (omega arith) (search adding) (omega arith) }

pub returns : goal.returns
returns c = search (row-end, rules)
