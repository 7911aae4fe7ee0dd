-- `locate::text::frame::card_length` meets its contract.
use Rattle.locate.proofs.text.Printing.{framing}
use Rattle.locate.proofs.text.frame.card_length.Goals as goal

pub returns-then-head-lt2 : goal.returns-then-head-lt2
returns-then-head-lt2 c = search framing

pub returns-then-not-is_card_length : goal.returns-then-not-is_card_length
returns-then-not-is_card_length c = search framing

pub returns : goal.returns
returns c = search framing
