-- `card::field_writing::put_sharding` meets its contract.
use Rattle.card.proofs.Composing.{composing}
use Rattle.card.proofs.field_writing.put_sharding.Goals as goal

pub put_one-requires : goal.put_one-requires
put_one-requires c = search composing

pub overflow_add-at : goal.overflow_add-at
overflow_add-at c = search composing

pub put_one-requires-2 : goal.put_one-requires-2
put_one-requires-2 c = search composing

pub overflow_add-at-2 : goal.overflow_add-at-2
overflow_add-at-2 c = search composing

pub put_one-requires-3 : goal.put_one-requires-3
put_one-requires-3 c = search composing

pub overflow_add-at-3 : goal.overflow_add-at-3
overflow_add-at-3 c = search composing

pub put_one-requires-4 : goal.put_one-requires-4
put_one-requires-4 c = search composing

pub shape_of-out : goal.shape_of-out
shape_of-out c = search composing

pub returns : goal.returns
returns c = search composing
