-- `card::optional_fields::put_offset` meets its contract.
use Rattle.card.proofs.Composing.{composing}
use Rattle.card.proofs.optional_fields.put_offset.Goals as goal

pub no_offset-requires : goal.no_offset-requires
no_offset-requires c = search composing

pub returns-then-no_offset : goal.returns-then-no_offset
returns-then-no_offset c = search composing

pub put_offset_tag-requires : goal.put_offset_tag-requires
put_offset_tag-requires c = search composing

pub shape_of-out : goal.shape_of-out
shape_of-out c = search composing

pub returns : goal.returns
returns c = search composing
