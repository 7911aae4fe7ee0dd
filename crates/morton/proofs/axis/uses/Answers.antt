-- `morton::axis::uses` meets its contract.
use Rattle.morton.proofs.axis.Used.{below-size}
use Rattle.morton.proofs.axis.uses.Goals as goal

pub returns : goal.returns
returns c = search below-size
