-- `card::field_writing::put_head` meets its contract.
use Rattle.card.proofs.Composing.{composing}
use Rattle.card.proofs.field_writing.put_head.Goals as goal

pub put_byte-requires : goal.put_byte-requires
put_byte-requires c = search composing

pub overflow_add-at : goal.overflow_add-at
overflow_add-at c = search composing

pub put_u16-requires : goal.put_u16-requires
put_u16-requires c = search composing

pub shape_of-out : goal.shape_of-out
shape_of-out c = search composing

pub returns : goal.returns
returns c = search composing
