-- `card::fields::offset_at` meets its contract.
use Rattle.card.proofs.fields.Parsing.{parsing}
use Rattle.card.proofs.fields.offset_at.Goals as goal

pub read_u32-requires : goal.read_u32-requires
read_u32-requires c = search parsing

pub signed-requires : goal.signed-requires
signed-requires c = search parsing

pub overflow_add-at : goal.overflow_add-at
overflow_add-at c = search parsing

pub read_u32-requires-2 : goal.read_u32-requires-2
read_u32-requires-2 c = search parsing

pub signed-requires-2 : goal.signed-requires-2
signed-requires-2 c = search parsing

pub overflow_add-at-2 : goal.overflow_add-at-2
overflow_add-at-2 c = search parsing

pub read_u32-requires-3 : goal.read_u32-requires-3
read_u32-requires-3 c = search parsing

pub signed-requires-3 : goal.signed-requires-3
signed-requires-3 c = search parsing

pub returns : goal.returns
returns c = search parsing
