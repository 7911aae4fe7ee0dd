-- `card::fields::field_at` meets its contract.
use Rattle.card.proofs.fields.Parsing.{field_is, parsing}
use Rattle.card.proofs.fields.field_at.Goals as goal

pub byte-requires : goal.byte-requires
byte-requires c = search parsing

pub overflow_add-at : goal.overflow_add-at
overflow_add-at c = search parsing

pub read_u16-requires : goal.read_u16-requires
read_u16-requires c = search parsing

pub returns : goal.returns
returns c = field_is _ _ _ _ c.byte.ensures c.read_u16.ensures.0
