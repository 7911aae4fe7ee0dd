-- What the inner functions' contracts say of turns: from which one on there is nothing to do.
use Rattle.std.specs.Prelude.{ℕ, ◌^◌, ◌≤◌}
use Rattle.morton.specs.declared.grid.Extents.{Extents}

-- from turn r on no axis of the grid is used
pub record Top (grid : Extents) (r : ℕ) : Type 0 where
  pub most : r ≤ 32
  pub x : grid.x ≤ 2 ^ r
  pub y : grid.y ≤ 2 ^ r
  pub z : grid.z ≤ 2 ^ r
