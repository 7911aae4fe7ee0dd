-- Each answer as a choice for each of its checks, in their order: what a proof that follows the code, test by test, shows.
use Prim.Native.Nat.{ℕ}
use mathlib.Core.Path.{◌≡◌, refl}
use mathlib.Core.Bool.{not}
use Rattle.refusal.specs.Choice.{pick}
use Rattle.refusal.proofs.Picks.{by_picks}
use Rattle.morton.specs.declared.grid.Volume.{Volume}
use Rattle.morton.specs.declared.grid.Cell.{Cell}
use Rattle.morton.specs.grid.Grid.{grid_of, zero_extent}
use Rattle.morton.specs.grid.Answers.{no_cell}
use Rattle.std.specs.Prelude.{Ok}
use Rattle.refusal.specs.Answers.{refuse}
use Rattle.morton.specs.Key.{too_many_bits, key_of, cell_of, is_key}
use Rattle.morton.specs.Answers.{key_checks, key_answer, cell_checks, cell_answer}

module _ (v : Volume) where
  pub key_by_picks : (c : Cell) → key_answer v c
      ≡ pick (no_cell v c) (refuse 2) (pick (too_many_bits (grid_of v)) (refuse 3) (Ok (key_of (grid_of v) c)))
  unfolding key_answer key_checks
  key_by_picks c = by_picks refuse (key_checks v c) _ refl

  pub cell_by_picks : (key : ℕ) → cell_answer v key
      ≡ pick (zero_extent v) (refuse 2)
      (pick (too_many_bits (grid_of v)) (refuse 3)
      (pick (not (is_key (grid_of v) key)) (refuse 4) (Ok (cell_of (grid_of v) key))))
  unfolding cell_answer cell_checks
  cell_by_picks key = by_picks refuse (cell_checks v key) _ refl
