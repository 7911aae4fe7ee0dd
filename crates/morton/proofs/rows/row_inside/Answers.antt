-- `morton::rows::row_inside` meets its contract.
use borrow.Author.Rules.{rules}
use Rattle.morton.proofs.rows.Rows.{row-none, row_last}
use Rattle.morton.proofs.rows.row_inside.Goals as goal

pub returns-then-to-from : goal.returns-then-to-from
returns-then-to-from c = search (row-none, rules)

pub returns : goal.returns
returns c = search (row_last, rules)
