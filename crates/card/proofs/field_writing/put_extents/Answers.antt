-- `card::field_writing::put_extents` meets its contract.
use Rattle.card.proofs.Composing.{composing}
use Rattle.card.proofs.field_writing.put_extents.Goals as goal

pub put_head-requires : goal.put_head-requires
put_head-requires c = search composing

pub overflow_add-at : goal.overflow_add-at
overflow_add-at c = search composing

pub put_three-requires : goal.put_three-requires
put_three-requires c = search composing

pub shape_of-out : goal.shape_of-out
shape_of-out c = search composing

pub returns : goal.returns
returns c = search composing
