-- `locate::text::frame::is_card_length` meets its contract.
use Rattle.locate.proofs.text.Printing.{framing}
use Rattle.locate.proofs.text.frame.is_card_length.Goals as goal

pub returns : goal.returns
returns c = search framing
