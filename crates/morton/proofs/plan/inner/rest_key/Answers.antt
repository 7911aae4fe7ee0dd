-- `morton::plan::inner::rest_key` meets its contract.
use borrow.Author.Rules.{rules}
use Rattle.morton.proofs.plan.Sums.{no-rest, rest_raise, rest_raised}
use Rattle.morton.proofs.plan.inner.rest_key.Goals as goal

ruleset raising = (no-rest, rest_raise, rest_raised, rules)

pub returns-then-plan-eq0 : goal.returns-then-plan-eq0
returns-then-plan-eq0 c = search raising

pub raise-requires : goal.raise-requires
raise-requires c = search raising

pub returns : goal.returns
returns c = search raising
