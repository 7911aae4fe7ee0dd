-- `card::field_writing::put_three` meets its contract.
use Rattle.card.proofs.Composing.{composing}
use Rattle.card.proofs.field_writing.put_three.Goals as goal

pub put_u32-requires : goal.put_u32-requires
put_u32-requires c = search composing

pub overflow_add-at : goal.overflow_add-at
overflow_add-at c = search composing

pub put_u32-requires-2 : goal.put_u32-requires-2
put_u32-requires-2 c = search composing

pub overflow_add-at-2 : goal.overflow_add-at-2
overflow_add-at-2 c = search composing

pub put_u32-requires-3 : goal.put_u32-requires-3
put_u32-requires-3 c = search composing

pub shape_of-out : goal.shape_of-out
shape_of-out c = search composing

pub returns : goal.returns
returns c = search composing
