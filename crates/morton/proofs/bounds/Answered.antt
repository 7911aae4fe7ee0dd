-- The answer as a choice by its check.
use mathlib.Core.Path.{◌≡◌, refl}
use Rattle.refusal.specs.Choice.{pick}
use Rattle.refusal.proofs.Picks.{by_picks}
use Rattle.morton.specs.declared.grid.Volume.{Volume}
use Rattle.morton.specs.declared.grid.Cell.{Cell}
use Rattle.morton.specs.grid.Answers.{no_cell}
use Rattle.std.specs.Prelude.{Ok}
use Rattle.refusal.specs.Answers.{refuse}
use Rattle.morton.specs.bounds.Bounds.{bounds_of}
use Rattle.morton.specs.bounds.Answers.{bounds_checks, bounds_answer}

pub bounds_by_picks : (v : Volume) (c : Cell) → bounds_answer v c ≡ pick (no_cell v c) (refuse 2) (Ok (bounds_of v c))
unfolding bounds_answer bounds_checks
bounds_by_picks v c = by_picks refuse (bounds_checks v c) _ refl
