-- `card::writing::bytes::card_len` meets its contract.
use Rattle.card.proofs.Composing.{composing}
use Rattle.card.proofs.writing.bytes.card_len.Goals as goal

pub kind_place-requires : goal.kind_place-requires
kind_place-requires c = search composing

pub kind_len-requires : goal.kind_len-requires
kind_len-requires c = search composing

pub overflow_add-result : goal.overflow_add-result
overflow_add-result c = search composing

pub returns : goal.returns
returns c = search composing
