-- `card::fields::twos::no_offset` meets its contract.
use Rattle.card.proofs.fields.Words.{words}
use Rattle.card.proofs.fields.twos.no_offset.Goals as goal

pub returns : goal.returns
returns c = search words
