-- `morton::grid::inner::zero_extent` meets its contract.
use mathlib.Core.Path.{◌∙◌}
use Rattle.morton.proofs.grid.Ways.{zero-size, zero-chunk}
use Rattle.morton.proofs.grid.inner.zero_extent.Goals as goal

pub returns-then-has_zero : goal.returns-then-has_zero
returns-then-has_zero c = zero-size _ (cc)

pub returns : goal.returns
returns c = c.has_zero-2.ensures ∙ zero-chunk _ (cc)
