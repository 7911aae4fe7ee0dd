-- `card::fields::six_fields` meets its contract.
use Rattle.card.proofs.fields.Parsing.{six_is, parsing}
use Rattle.card.proofs.fields.six_fields.Goals as goal

pub field_at-requires : goal.field_at-requires
field_at-requires c = search parsing

pub field_at-requires-2 : goal.field_at-requires-2
field_at-requires-2 c = search parsing

pub field_at-requires-3 : goal.field_at-requires-3
field_at-requires-3 c = search parsing

pub field_at-requires-4 : goal.field_at-requires-4
field_at-requires-4 c = search parsing

pub field_at-requires-5 : goal.field_at-requires-5
field_at-requires-5 c = search parsing

pub field_at-requires-6 : goal.field_at-requires-6
field_at-requires-6 c = search parsing

pub returns : goal.returns
returns c = six_is _ c.field_at.ensures c.field_at-2.ensures c.field_at-3.ensures c.field_at-4.ensures c.field_at-5.ensures c.field_at-6.ensures
