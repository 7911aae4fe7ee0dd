-- A block's bytes that are told fill a part of `cells`, and their lines fit into `text`.
use Rattle.locate.proofs.Handed.{handed}
use Rattle.locate.proofs.locate_block.Goals as goal

pub returns : goal.returns
returns c = search handed
