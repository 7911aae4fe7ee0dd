-- `morton::bounds::end_of` meets its contract.
use Rattle.morton.proofs.bounds.Signed.{ends}
use Rattle.morton.proofs.bounds.end_of.Goals as goal

pub returns : goal.returns
returns c = search ends
