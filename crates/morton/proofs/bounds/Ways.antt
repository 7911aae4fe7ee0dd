-- Each way out of `bounds_of`, as a case of its definition.
use mathlib.Core.Path.{◌≡◌}
use mathlib.Core.Bool.{Bool, true, false, not}
use Rattle.morton.specs.declared.grid.Extents.{Extents}
use Rattle.morton.specs.declared.grid.Cell.{Cell}
use Rattle.morton.specs.declared.grid.Volume.{Volume}
use Rattle.morton.specs.grid.Grid.{grid_of, zero_extent, in_grid}
use Rattle.morton.proofs.grid.Covers.{cell-begins-inside}
use Rattle.morton.proofs.grid.Ways.{chunk-some, inside-all, tested, none_2, outside_2, inside_is, a_cell}
use Rattle.morton.specs.declared.bounds.Point.{Point}
use Rattle.std.specs.Prelude.{Ok}
use Rattle.refusal.specs.Answers.{refuse}
use Rattle.morton.specs.bounds.Bounds.{begin_point, end_point, bounds_of, BeginsInside}
use Rattle.morton.specs.bounds.Answers.{bounds_answer}
use Rattle.morton.proofs.bounds.Answered.{bounds_by_picks}

-- a cell of the grid begins inside the volume
begins-within : (v : Volume) (c : Cell) → zero_extent v ≡ false → in_grid (grid_of v) c ≡ true → BeginsInside v c
unfolding grid_of
begins-within v c e o =
    let s = chunk-some v e in
    let h = inside-all _ c o in
    record {
      x = cell-begins-inside _ _ s.0 _ h.0;
      y = cell-begins-inside _ _ s.1 _ h.1;
      z = cell-begins-inside _ _ s.2 _ h.2;
    }

-- z is whether an extent is 0, g the grid, o whether the cell is inside
module _ (v : Volume) {z : Bool} (ez : z ≡ zero_extent v) (c : Cell) where
  pub bounds_2 : z ≡ true → refuse 2 ≡ bounds_answer v c
  bounds_2 h = rw (bounds_by_picks v c, none_2 v ez c h)

  module _ (nz : z ≡ false) {g : Extents} (eg : g ≡ grid_of v) {o : Bool} (eo : o ≡ in_grid g c) where
    pub bounds_2_cell : not o ≡ true → refuse 2 ≡ bounds_answer v c
    bounds_2_cell h = rw (bounds_by_picks v c, outside_2 v ez c nz eg eo h)

    module _ (no : not o ≡ false) where
      pub within-is : BeginsInside v c
      within-is = begins-within v c (tested v ez nz) (inside_is v ez c nz eg eo no)

      pub bounds-yes : {p q : Point} → p ≡ begin_point v c → q ≡ end_point v c
          → Ok (record { begin = p; end = q }) ≡ bounds_answer v c
      unfolding bounds_of
      bounds-yes ep eq = rw (bounds_by_picks v c, a_cell v ez c nz eg eo no, ep, eq)
