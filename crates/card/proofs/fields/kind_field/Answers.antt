-- `card::fields::kind_field` meets its contract.
use Rattle.card.proofs.fields.Parsing.{kind-field-is, parsing}
use Rattle.card.proofs.fields.kind_field.Goals as goal

pub field_at-requires : goal.field_at-requires
field_at-requires c = search parsing

pub overflow_add-at : goal.overflow_add-at
overflow_add-at c = search parsing

pub byte-requires : goal.byte-requires
byte-requires c = search parsing

pub returns : goal.returns
returns c = kind-field-is _ _ c.field_at.ensures c.byte.ensures
