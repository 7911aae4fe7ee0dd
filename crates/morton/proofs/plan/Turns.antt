-- Agreement with the steps: for each grid and cell the key is the spread bits of the shared turns, and above them the coarse cell's key.
use Prim.Native.Nat.{ℕ, zero, suc, ◌+◌, ◌-◌, ◌*◌, ◌/◌, ◌^◌, ◌≤◌, ◌<◌}
use mathlib.Core.Path.{◌≡◌, refl, ap, sym, ◌∙◌}
use native.Mathlib.Omega.{arith}
use native.Mathlib.Nat.{pow-suc, div-one, zero-add, add-zero, suc-add, add-suc, lt_of_not-le}
use native.Mathlib.Decide.{dec_lt}
use lib.Pow.{pow-add, pow_pos}
use Rattle.morton.specs.declared.grid.Extents.{Extents}
use Rattle.morton.specs.declared.grid.Cell.{Cell}
use Rattle.morton.specs.grid.Grid.{grid_size, InU32}
use Rattle.morton.specs.axis.Axis.{bit_of, used, put, AxisBits}
use Rattle.morton.specs.Key.{key_of, key_bits_of}
use Rattle.morton.proofs.grid.Covers.{grid-size-reached, grid-size_reaches}
use Rattle.morton.proofs.From.{key_from, key-is, key-from-none}
use Rattle.morton.proofs.axis.Used.{used-yes, unused, axis_bits_are}
use Rattle.morton.proofs.Lengths.{key-bits-sum}
use Rattle.morton.specs.spread.Spread.{spread}
use Rattle.morton.specs.plan.Parts.{low_key, coarse_grid, coarse_cell, rest_key, Shared}
use Rattle.morton.proofs.spread.Spreading.{spread-first, bit_past}

-- ---- turns that use all three axes
three : (n i : ℕ) (g : Extents) (c : Cell) → Shared g i
    → key_from (suc n) i g c ≡ bit_of c.x i + 2 * bit_of c.y i + 4 * bit_of c.z i + 8 * key_from n (suc i) g c
unfolding key_from put
three n i g c s = rw (used-yes i s.x, used-yes i s.y, used-yes i s.z) (omega arith)

three-turns : (m n i : ℕ) (g : Extents) (c : Cell) → ((t : ℕ) → t < m → Shared g (i + t))
    → key_from (m + n) i g c
    ≡ spread m (c.x / 2 ^ i) + 2 * spread m (c.y / 2 ^ i) + 4 * spread m (c.z / 2 ^ i) + 8 ^ m * key_from n (i + m) g c
three-turns zero n i g c h = unfold spread in rw (zero-add n, add-zero i) (omega arith)
three-turns (suc m) n i g c h =
    let e : i + 0 ≡ i = omega arith in
    let s = rw e at (h 0 (omega arith)) in
    let ih = three-turns m n (suc i) g c (λ t l. rw (suc-add, ← add-suc) (h (suc t) (omega arith))) in
    rw (suc-add, spread-first, spread-first, spread-first, pow-suc 8, add-suc, three _ i g c s, ih, suc-add i m) (omega arith)

eights : (n : ℕ) → 2 ^ (3 * n) ≡ 8 ^ n
eights zero = refl
eights (suc n) = let e : 3 * suc n ≡ 3 + 3 * n = omega arith in rw (e, pow-add 2 3 (3 * n), eights n, pow-suc 8) (omega arith)

-- ---- the turns after them see the coarse grid
-- turn i of a coarse axis is turn l + i of the axis
coarse_used : (l i g : ℕ) → Dec (2 ^ (l + i) < g) → used (grid_size g (2 ^ l)) i ≡ used g (l + i)
coarse_used l i g (yes h) =
    used-yes i (lt_of_not-le (λ m. let p = grid-size_reaches g (2 ^ l) (pow_pos l) (2 ^ i) m in omega (arith, pow-add 2 l i)))
    ∙ sym (used-yes (l + i) h)
coarse_used l i g (no h) =
    unused i (grid-size-reached g (2 ^ l) (pow_pos l) (2 ^ i) (omega (arith, pow-add 2 l i)))
    ∙ sym (unused (l + i) (omega arith))

coarse_turns : (l n i : ℕ) (g : Extents) (c : Cell) → key_from n i (coarse_grid l g) (coarse_cell l c) ≡ key_from n (l + i) g c
unfolding key_from coarse_grid
coarse_turns l zero i g c = refl
coarse_turns l (suc n) i g c =
    rw (
      coarse_turns l n (suc i) g c,
      add-suc l i,
      coarse_used l i g.x (dec_lt _ _),
      coarse_used l i g.y (dec_lt _ _),
      coarse_used l i g.z (dec_lt _ _),
      bit_past c.x l i,
      bit_past c.y l i,
      bit_past c.z l i,
    )

-- no turn past the last used one gives a bit
turns-past : (n m i : ℕ) (g : Extents) (c : Cell) → g.x ≤ 2 ^ (i + n) → g.y ≤ 2 ^ (i + n) → g.z ≤ 2 ^ (i + n) → key_from (n + m) i g c ≡ key_from n i g c
unfolding key_from
turns-past zero m i g c hx hy hz = rw zero-add (key-from-none g c m i (rw add-zero at hx) (rw add-zero at hy) (rw add-zero at hz))
turns-past (suc n) m i g c hx hy hz =
    rw (suc-add n m, turns-past n m (suc i) g c (rw (suc-add, ← add-suc) hx) (rw (suc-add, ← add-suc) hy) (rw (suc-add, ← add-suc) hz))

-- each grid and each cell, n of its shared turns
pub key_by_parts : (g : Extents) (c : Cell) (n : ℕ) → InU32 g → ((i : ℕ) → i < n → Shared g i)
    → key_of g c ≡ low_key n c + rest_key n g c
unfolding low_key rest_key
key_by_parts g c n w h =
    let p = turns-past 32 n 0 g c (omega (arith, w.x)) (omega (arith, w.y)) (omega (arith, w.z)) in
    let e : 32 + n ≡ n + 32 = omega arith in
    let q = three-turns n 32 0 g c (λ t l. rw zero-add (h t l)) in
    let r = coarse_turns n 32 0 g c in
    key-is g c
    ∙ sym p
    ∙ ap (λ (a : ℕ). key_from a 0 g c) e
    ∙ q
    ∙ rw (div-one c.x, div-one c.y, div-one c.z, zero-add n, ← eights n, key-is (coarse_grid n g) (coarse_cell n c), r, add-zero n) (omega arith)

-- ---- how many bits the coarse grid's keys have
coarse_bits : (g l a : ℕ) → AxisBits g a → l ≤ a → AxisBits (grid_size g (2 ^ l)) (a - l)
coarse_bits g l a w h =
    axis_bits_are (grid_size g (2 ^ l)) (a - l)
    (grid-size-reached g (2 ^ l) (pow_pos l) (2 ^ (a - l)) (reach))
    (λ i k. lt_of_not-le (λ m. let p = grid-size_reaches g (2 ^ l) (pow_pos l) (2 ^ i) m in omega (arith, pow-add 2 l i, w.needs (l + i) (omega arith))))
    (omega (arith, w.most))
  where
    whole : l + (a - l) ≡ a
    whole = omega arith

    reach : g ≤ 2 ^ (a - l) * 2 ^ l
    reach = omega (arith, w.holds, pow-add 2 l (a - l), ap (λ (n : ℕ). 2 ^ n) whole)

module _ (g : Extents) {a b d l : ℕ} (x : AxisBits g.x a) (y : AxisBits g.y b) (z : AxisBits g.z d) (p : l ≤ a) (q : l ≤ b) (r : l ≤ d) where
  pub coarse_sum : key_bits_of (coarse_grid l g) + 3 * l ≡ key_bits_of g
  unfolding coarse_grid
  coarse_sum =
      let s = key-bits-sum g x y z in
      let t = key-bits-sum (coarse_grid l g) (coarse_bits g.x l a x p) (coarse_bits g.y l b y q) (coarse_bits g.z l d z r) in
      omega arith

  pub all-shared : (i : ℕ) → i < l → Shared g i
  all-shared i h = record { x = x.needs i (omega arith); y = y.needs i (omega arith); z = z.needs i (omega arith) }
