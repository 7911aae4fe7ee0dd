-- `locate::text::frame::framed_card` meets its contract.
use Rattle.locate.proofs.text.Printing.{framing}
use Rattle.locate.proofs.text.frame.framed_card.Goals as goal

pub returns-then-bytes-n : goal.returns-then-bytes-n
returns-then-bytes-n c = search framing

pub read_card-requires : goal.read_card-requires
read_card-requires c = search framing

pub returns : goal.returns
returns c = search framing
