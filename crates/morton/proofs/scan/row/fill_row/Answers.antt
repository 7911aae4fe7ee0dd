-- `morton::scan::row::fill_row` meets its contract.
use borrow.Author.Rules.{rules}
use Rattle.morton.proofs.scan.Filled.{planned_keys}
use Rattle.morton.proofs.scan.row.fill_row.Goals as goal

pub fill-requires : goal.fill-requires
fill-requires c = record { planned = search rules; room = search rules }

pub returns : goal.returns
returns c = search planned_keys
