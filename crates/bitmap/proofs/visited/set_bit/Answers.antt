use Rattle.bitmap.proofs.visited.Noted.{one-marked}
use Rattle.bitmap.proofs.visited.set_bit.Goals as goal

pub returns : goal.returns
returns c = search one-marked
