-- `morton::bounds::end_point` meets its contract.
use Rattle.morton.proofs.bounds.Signed.{end-made}
use Rattle.morton.proofs.bounds.end_point.Goals as goal

pub returns : goal.returns
returns c = search end-made
