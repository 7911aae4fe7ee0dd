-- `card::reading::offset_in` meets its contract.
use Rattle.card.proofs.Parsing.{parsing}
use Rattle.card.proofs.reading.offset_in.Goals as goal

pub returns-then-s : goal.returns-then-s
returns-then-s c = search parsing

pub offset_at-requires : goal.offset_at-requires
offset_at-requires c = search parsing

pub returns : goal.returns
returns c = search parsing
