-- `morton::bounds::begin_point` meets its contract.
use Rattle.morton.proofs.bounds.Signed.{begin-made}
use Rattle.morton.proofs.bounds.begin_point.Goals as goal

pub returns : goal.returns
returns c = search begin-made
