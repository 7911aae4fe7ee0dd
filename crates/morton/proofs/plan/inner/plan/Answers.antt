-- `morton::plan::inner::plan` meets its contract.
use mathlib.Core.Path.{refl}
use borrow.Author.Rules.{rules}
use Rattle.morton.proofs.plan.Sums.{low-few, planned}
use Rattle.morton.proofs.plan.inner.plan.Goals as goal

pub coarse_grid-rest-requires : goal.coarse_grid-rest-requires
coarse_grid-rest-requires c = search low-few

pub returns : goal.returns
returns c = (refl, search (planned, rules))
