-- Each way out of a function, as a case of its definition.
use Prim.Native.Nat.{ℕ, ◌≤◌, ◌<◌}
use mathlib.Core.Path.{◌≡◌, sym, ◌∙◌}
use mathlib.Core.Bool.{Bool, true, false, not}
use native.Mathlib.Omega.{arith}
use lib.Dec.{ltb, eqb}
use borrow.Author.Tests.{not-true, not-false, ltb-true, eqb-false, lt-ltb, le-ltb, eq-eqb, ne_eqb}
use Rattle.refusal.proofs.Tests.{both, neither}
use Rattle.morton.specs.declared.grid.Extents.{Extents}
use Rattle.morton.specs.declared.grid.Cell.{Cell}
use Rattle.morton.specs.declared.grid.Volume.{Volume}
use Rattle.std.specs.Prelude.{Ok}
use Rattle.refusal.specs.Answers.{refuse}
use Rattle.morton.specs.grid.Grid.{grid_size, grid_of, has_zero, zero_extent, in_grid}
use Rattle.morton.specs.grid.Answers.{no_cell, grid_answer}
use Rattle.morton.proofs.grid.Answered.{grid_by_picks}

positive : (n : ℕ) → eqb n 0 ≡ false → 0 < n
positive n e = let f = eqb-false n 0 e in omega arith

-- ---- extents
module _ (e : Extents) where
  pub zero-x : e.x ≡ 0 → true ≡ has_zero e
  unfolding has_zero
  zero-x p = simp (eq-eqb _ _ p)

  pub zero-y : (e.x ≡ 0 → ⊥) → e.y ≡ 0 → true ≡ has_zero e
  unfolding has_zero
  zero-y n p = simp (ne_eqb _ _ n, eq-eqb _ _ p)

  pub zero-z : (e.x ≡ 0 → ⊥) → (e.y ≡ 0 → ⊥) → eqb e.z 0 ≡ has_zero e
  unfolding has_zero
  zero-z n m = simp (ne_eqb _ _ n, ne_eqb _ _ m)

  pub no_zero : has_zero e ≡ false → (0 < e.x) × (0 < e.y) × (0 < e.z)
  unfolding has_zero
  no_zero h =
      let p = neither _ _ h in
      let q = neither _ _ p.1 in
      (positive _ p.0, positive _ q.0, positive _ q.1)

module _ (v : Volume) where
  pub zero-size : has_zero v.size ≡ true → true ≡ zero_extent v
  unfolding zero_extent
  zero-size e = rw e

  pub zero-chunk : has_zero v.size ≡ false → has_zero v.chunk ≡ zero_extent v
  unfolding zero_extent
  zero-chunk e = rw e

  -- no extent is 0: each chunk has a voxel
  pub chunk-some : zero_extent v ≡ false → (0 < v.chunk.x) × (0 < v.chunk.y) × (0 < v.chunk.z)
  unfolding zero_extent
  chunk-some e = no_zero _ (neither (has_zero v.size) (has_zero v.chunk) e).1

  pub chunk-x : zero_extent v ≡ false → 0 < v.chunk.x
  chunk-x e = (chunk-some e).0

  pub chunk-y : zero_extent v ≡ false → 0 < v.chunk.y
  chunk-y e = (chunk-some e).1

  pub chunk-z : zero_extent v ≡ false → 0 < v.chunk.z
  chunk-z e = (chunk-some e).2

  pub grid-made : {x y z : ℕ} → x ≡ grid_size v.size.x v.chunk.x → y ≡ grid_size v.size.y v.chunk.y
      → z ≡ grid_size v.size.z v.chunk.z → ◌≡◌ {A = Extents} (record { x = x; y = y; z = z }) (grid_of v)
  unfolding grid_of
  grid-made p q r = λ t. record { x = p t; y = q t; z = r t }

-- ---- cells of a grid
module _ (g : Extents) (c : Cell) where
  pub out_x : g.x ≤ c.x → false ≡ in_grid g c
  unfolding in_grid
  out_x h = simp (le-ltb _ _ h)

  pub out_y : c.x < g.x → g.y ≤ c.y → false ≡ in_grid g c
  unfolding in_grid
  out_y p h = simp (lt-ltb _ _ p, le-ltb _ _ h)

  pub in_z : c.x < g.x → c.y < g.y → ltb c.z g.z ≡ in_grid g c
  unfolding in_grid
  in_z p h = simp (lt-ltb _ _ p, lt-ltb _ _ h)

  pub inside-all : in_grid g c ≡ true → (c.x < g.x) × (c.y < g.y) × (c.z < g.z)
  unfolding in_grid
  inside-all e =
      let p = both _ _ e in
      let q = both _ _ p.1 in
      (ltb-true _ _ p.0, ltb-true _ _ q.0, ltb-true _ _ q.1)

-- ---- the entry points: z is whether an extent is 0, g the grid, o whether the cell is inside
module _ (v : Volume) {z : Bool} (ez : z ≡ zero_extent v) where
  pub tested : z ≡ false → zero_extent v ≡ false
  tested h = sym ez ∙ h

  pub grid_2 : z ≡ true → refuse 2 ≡ grid_answer v
  grid_2 h = rw (grid_by_picks v, sym ez ∙ h)

  pub grid-yes : z ≡ false → {g : Extents} → g ≡ grid_of v → Ok g ≡ grid_answer v
  grid-yes h eg = rw (grid_by_picks v, tested h, eg)

  module _ (c : Cell) where
    pub none_2 : z ≡ true → no_cell v c ≡ true
    unfolding no_cell
    none_2 h = rw (sym ez ∙ h)

    module _ (nz : z ≡ false) {g : Extents} (eg : g ≡ grid_of v) {o : Bool} (eo : o ≡ in_grid g c) where
      in_is : {t : Bool} → o ≡ t → in_grid (grid_of v) c ≡ t
      in_is h = rw eg at (sym eo ∙ h)

      pub outside_2 : not o ≡ true → no_cell v c ≡ true
      unfolding no_cell
      outside_2 h = rw (tested nz, in_is (not-true o h))

      module _ (no : not o ≡ false) where
        pub inside_is : in_grid (grid_of v) c ≡ true
        inside_is = in_is (not-false o no)

        pub a_cell : no_cell v c ≡ false
        unfolding no_cell
        a_cell = rw (tested nz, inside_is)
