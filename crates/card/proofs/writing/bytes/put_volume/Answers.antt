-- `card::writing::bytes::put_volume` meets its contract.
use Rattle.card.proofs.Composing.{composing}
use Rattle.card.proofs.writing.bytes.put_volume.Goals as goal

pub put_extents-requires : goal.put_extents-requires
put_extents-requires c = search composing

pub overflow_add-at : goal.overflow_add-at
overflow_add-at c = search composing

pub put_extents-requires-2 : goal.put_extents-requires-2
put_extents-requires-2 c = search composing

pub overflow_add-at-2 : goal.overflow_add-at-2
overflow_add-at-2 c = search composing

pub put_offset-requires : goal.put_offset-requires
put_offset-requires c = search composing

pub shape_of-out : goal.shape_of-out
shape_of-out c = search composing

pub returns : goal.returns
returns c = search composing
