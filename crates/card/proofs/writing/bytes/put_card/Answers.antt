-- `card::writing::bytes::put_card` meets its contract.
use Rattle.card.proofs.Composing.{composing}
use Rattle.card.proofs.writing.bytes.put_card.Goals as goal

pub put_sharding-requires : goal.put_sharding-requires
put_sharding-requires c = search composing

pub put_volume-requires : goal.put_volume-requires
put_volume-requires c = search composing

pub kind_place-requires : goal.kind_place-requires
kind_place-requires c = search composing

pub put_kind-requires : goal.put_kind-requires
put_kind-requires c = search composing

pub shape_of-out : goal.shape_of-out
shape_of-out c = search composing

pub returns : goal.returns
returns c = search composing
