-- `card::reading::sharding_in` meets its contract.
use Rattle.card.proofs.Parsing.{parsing}
use Rattle.card.proofs.reading.sharding_in.Goals as goal

pub byte-requires : goal.byte-requires
byte-requires c = search parsing

pub byte-requires-2 : goal.byte-requires-2
byte-requires-2 c = search parsing

pub byte-requires-3 : goal.byte-requires-3
byte-requires-3 c = search parsing

pub byte-requires-4 : goal.byte-requires-4
byte-requires-4 c = search parsing

pub kind_in-requires : goal.kind_in-requires
kind_in-requires c = search parsing

pub returns : goal.returns
returns c = search parsing
