-- `morton::plan::inner::coarse_grid` meets its contract.
use Rattle.morton.proofs.plan.Sums.{coarse_made}
use Rattle.morton.proofs.plan.inner.coarse_grid.Goals as goal

pub returns : goal.returns
returns c = search coarse_made
