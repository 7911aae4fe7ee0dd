-- `card::optional_fields::put_offset_tag` meets its contract.
use Rattle.card.proofs.Composing.{tag_put, composing}
use Rattle.card.proofs.optional_fields.put_offset_tag.Goals as goal

pub put_head-requires : goal.put_head-requires
put_head-requires c = search composing

pub overflow_add-at : goal.overflow_add-at
overflow_add-at c = search composing

pub bits-requires : goal.bits-requires
bits-requires c = search composing

pub bits-requires-2 : goal.bits-requires-2
bits-requires-2 c = search composing

pub bits-requires-3 : goal.bits-requires-3
bits-requires-3 c = search composing

pub put_three-requires : goal.put_three-requires
put_three-requires c = search composing

pub shape_of-out : goal.shape_of-out
shape_of-out c = search composing

pub returns : goal.returns
returns c =
    tag_put _ _ _ c.put_head.ensures c.put_three.ensures c.bits.ensures c.bits-2.ensures c.bits-3.ensures
    (search composing) (search composing) (search composing) (search composing)
