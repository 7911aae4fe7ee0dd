-- `morton::grid::inner::has_zero` meets its contract.
use Rattle.morton.proofs.grid.Ways.{zero-x, zero-y, zero-z}
use Rattle.morton.proofs.grid.inner.has_zero.Goals as goal

pub returns-then-e-eq0 : goal.returns-then-e-eq0
returns-then-e-eq0 c = search zero-x

pub returns-then-e-eq0-2 : goal.returns-then-e-eq0-2
returns-then-e-eq0-2 c = search zero-y

pub returns : goal.returns
returns c = search zero-z
