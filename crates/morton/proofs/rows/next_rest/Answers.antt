-- `morton::rows::next_rest` meets its contract.
use borrow.Author.Rules.{rules}
use Rattle.morton.proofs.rows.Rows.{same_rest}
use Rattle.morton.proofs.rows.next_rest.Goals as goal

pub returns : goal.returns
returns c = search (same_rest, rules)
