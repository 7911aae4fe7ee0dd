-- The grid size is the least number of chunks that reach the extent, and what follows for cells.
use Prim.Native.Nat.{ℕ, zero, suc, ◌+◌, ◌-◌, ◌*◌, ◌/◌, ◌%◌, ◌≤◌, ◌<◌, min}
use mathlib.Core.Path.{◌≡◌, refl}
use Rattle.std.specs.Int.{div_ceil}
use native.Mathlib.Omega.{arith}
use native.Mathlib.Nat.{div-lt_iff_lt-mul, add-mul, one-mul, le_antisymm, le_refl, lt_of_not-le, mul-le-mul_left, div-add-mod', mod-lt}
use Rattle.morton.specs.grid.Grid.{grid_size}

-- (n + 1) × chunk, as the code adds it
pub next : (n chunk : ℕ) → (n + 1) * chunk ≡ n * chunk + chunk
next n chunk = rw (add-mul, one-mul)

module _ (extent chunk : ℕ) (some : 0 < chunk) where
  -- n chunks reach the extent exactly when n is at least the grid size
  pub grid-size-reached : (n : ℕ) → extent ≤ n * chunk → grid_size extent chunk ≤ n
  unfolding grid_size
  grid-size-reached n h =
      let l : (extent + (chunk - 1)) / chunk < n + 1 = (div-lt_iff_lt-mul some).1 (omega (arith, next n chunk)) in
      omega arith

  pub grid-size_reaches : (n : ℕ) → grid_size extent chunk ≤ n → extent ≤ n * chunk
  unfolding grid_size
  grid-size_reaches n h =
      let l : extent + (chunk - 1) < (n + 1) * chunk = (div-lt_iff_lt-mul some).0 (omega arith) in
      omega (arith, next n chunk)

  -- the grid size is the least n with n × chunk ≥ extent
  pub grid-size-is-least : (extent ≤ grid_size extent chunk * chunk) × ((n : ℕ) → extent ≤ n * chunk → grid_size extent chunk ≤ n)
  grid-size-is-least = (grid-size_reaches _ (le_refl _), grid-size-reached)

  -- a cell of the grid begins inside the extent
  pub cell-begins-inside : (g : ℕ) → g < grid_size extent chunk → g * chunk < extent
  cell-begins-inside g h = lt_of_not-le (λ l. omega (arith, grid-size-reached g l))

  -- and no other place of a chunk does
  pub begins-inside-is-cell : (g : ℕ) → g * chunk < extent → g < grid_size extent chunk
  begins-inside-is-cell g h = lt_of_not-le (λ l. omega (arith, grid-size_reaches g l))

  -- a grid has no more cells than voxels
  pub grid-size-small : grid_size extent chunk ≤ extent
  grid-size-small = grid-size-reached extent (omega (arith, mul-le-mul_left extent some))

  -- the same by the quotient and the remainder
  pub grid-size-whole : extent % chunk ≤ 0 → extent / chunk ≡ grid_size extent chunk
  grid-size-whole e =
      let d = div-add-mod' extent chunk in
      let l : extent / chunk < grid_size extent chunk + 1 = (div-lt_iff_lt-mul some).1 (omega (arith, grid-size_reaches _ (le_refl _), next (grid_size extent chunk) chunk)) in
      le_antisymm (omega arith) (grid-size-reached _ (omega arith))

  pub grid-size-cut : 0 < extent % chunk → extent / chunk + 1 ≡ grid_size extent chunk
  grid-size-cut f =
      let d = div-add-mod' extent chunk in
      let m = mod-lt extent some in
      let l : extent / chunk < grid_size extent chunk = lt_of_not-le (λ h. omega (arith, grid-size_reaches _ h)) in
      le_antisymm (omega arith) (grid-size-reached _ (omega (arith, next (extent / chunk) chunk)))

  pub grid_size_up : div_ceil extent chunk ≡ grid_size extent chunk
  grid_size_up = go (extent % chunk) refl
    where
      go : (r : ℕ) → extent % chunk ≡ r → extent / chunk + min 1 (extent % chunk) ≡ grid_size extent chunk
      go zero e = omega (arith, grid-size-whole (omega arith))
      go (suc r) e = omega (arith, grid-size-cut (omega arith))
