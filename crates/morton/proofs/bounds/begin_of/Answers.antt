-- `morton::bounds::begin_of` meets its contract.
use Rattle.morton.proofs.bounds.Signed.{begins}
use Rattle.morton.proofs.bounds.begin_of.Goals as goal

pub returns : goal.returns
returns c = search begins
