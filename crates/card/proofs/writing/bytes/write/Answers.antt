-- `card::writing::bytes::write` meets its contract.
use Rattle.card.proofs.Composing.{composing}
use Rattle.card.proofs.writing.bytes.write.Goals as goal

pub card_len-n-requires : goal.card_len-n-requires
card_len-n-requires c = search composing

pub returns-then-out-n : goal.returns-then-out-n
returns-then-out-n c = search composing

pub put_card-requires : goal.put_card-requires
put_card-requires c = search composing

pub shape_of-out : goal.shape_of-out
shape_of-out c = search composing

pub returns : goal.returns
returns c = search composing
