-- `morton::table::key_by_table` meets its contract.
use borrow.Author.Rules.{rules}
use Rattle.morton.proofs.plan.Sums.{key-sum, key-sum-fits}
use Rattle.morton.proofs.table.key_by_table.Goals as goal

ruleset adding = (key-sum, key-sum-fits, rules)

pub overflow_add-result : goal.overflow_add-result
overflow_add-result c = search adding

pub returns : goal.returns
returns c = search adding
