-- `morton::table::low_key` meets its contract.
use borrow.Author.Rules.{rules}
use Rattle.morton.proofs.plan.Sums.{low-none, low_sum}
use Rattle.morton.proofs.table.low_key.Goals as goal

ruleset summing = (low-none, low_sum, rules)

pub returns-then-n-eq0 : goal.returns-then-n-eq0
returns-then-n-eq0 c = search summing

pub returns : goal.returns
returns c = search summing
