-- The answer as a choice by its check: what a proof that follows the code, test by test, shows.
use mathlib.Core.Path.{◌≡◌, refl}
use Rattle.refusal.specs.Choice.{pick}
use Rattle.refusal.proofs.Picks.{by_picks}
use Rattle.morton.specs.declared.grid.Volume.{Volume}
use Rattle.std.specs.Prelude.{Ok}
use Rattle.refusal.specs.Answers.{refuse}
use Rattle.morton.specs.grid.Grid.{grid_of, zero_extent}
use Rattle.morton.specs.grid.Answers.{grid_checks, grid_answer}

module _ (v : Volume) where
  pub grid_by_picks : grid_answer v ≡ pick (zero_extent v) (refuse 2) (Ok (grid_of v))
  unfolding grid_answer grid_checks
  grid_by_picks = by_picks refuse (grid_checks v) _ refl
