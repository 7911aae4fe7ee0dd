use borrow.Author.Rules.{rules}
use Rattle.holdings.proofs.totals.Passing.{adding_next, adding}
use Rattle.holdings.proofs.totals.add_rows.Goals as goal

pub loop-i-init : goal.loop-i-init
loop-i-init c = search adding

pub returns-then-total-rows : goal.returns-then-total-rows
returns-then-total-rows c = search adding

pub loop-i-preserved : goal.loop-i-preserved
loop-i-preserved c = adding_next c.loop-i.invariant c.loop-i-test.true (search rules) c.if-total-rows.false

pub returns : goal.returns
returns c = search adding
