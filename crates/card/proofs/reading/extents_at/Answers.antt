-- `card::reading::extents_at` meets its contract.
use Rattle.card.proofs.Parsing.{parsing}
use Rattle.card.proofs.reading.extents_at.Goals as goal

pub read_u32-requires : goal.read_u32-requires
read_u32-requires c = search parsing

pub overflow_add-at : goal.overflow_add-at
overflow_add-at c = search parsing

pub read_u32-requires-2 : goal.read_u32-requires-2
read_u32-requires-2 c = search parsing

pub overflow_add-at-2 : goal.overflow_add-at-2
overflow_add-at-2 c = search parsing

pub read_u32-requires-3 : goal.read_u32-requires-3
read_u32-requires-3 c = search parsing

pub returns : goal.returns
returns c = search parsing
