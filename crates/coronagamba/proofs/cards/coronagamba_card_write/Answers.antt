use Rattle.coronagamba.proofs.Given.{written}
use Rattle.coronagamba.proofs.cards.coronagamba_card_write.Goals as goal

pub returns : goal.returns
returns c = record { answer = search written; out = search written; length = search written }
