-- `card::fields::offset_field` meets its contract.
use Rattle.card.proofs.fields.Parsing.{offset-field-is, parsing}
use Rattle.card.proofs.fields.offset_field.Goals as goal

pub field_at-requires : goal.field_at-requires
field_at-requires c = search parsing

pub offset_at-requires : goal.offset_at-requires
offset_at-requires c = search parsing

pub no_offset-requires : goal.no_offset-requires
no_offset-requires c = search parsing

pub returns : goal.returns
returns c = offset-field-is _ c.field_at.ensures c.no_offset.ensures c.offset_at.ensures
