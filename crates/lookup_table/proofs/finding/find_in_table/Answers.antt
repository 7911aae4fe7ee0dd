use Rattle.lookup_table.proofs.finding.Laws.{ending}
use Rattle.lookup_table.proofs.finding.find_in_table.Goals as goal

pub returns-then-at-count : goal.returns-then-at-count
returns-then-at-count c = search ending

pub returns-then-table-at : goal.returns-then-table-at
returns-then-table-at c = search ending

pub returns : goal.returns
returns c = search ending
