-- `card::reading::kind_in` meets its contract.
use Rattle.card.proofs.Parsing.{parsing}
use Rattle.card.proofs.reading.kind_in.Goals as goal

pub returns-then-s : goal.returns-then-s
returns-then-s c = search parsing

pub returns-else-s : goal.returns-else-s
returns-else-s c = search parsing
