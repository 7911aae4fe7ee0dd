-- The plan of a grid, and the two parts of a key added: the sum is the key, and it fits.
use Prim.Native.Nat.{ℕ, ◌+◌, ◌*◌, ◌^◌, ◌≤◌, ◌<◌, min, ◌%◌}
use mathlib.Core.Path.{◌≡◌, sym, ◌∙◌}
use native.Mathlib.Omega.{arith}
use native.Mathlib.Nat.{lt_of_lt_of_le}
use native.Mathlib.Decide.{dec_lt}
use lib.Pow.{pow_mono}
use mir.Syntax.{w64}
use mir.Val.{Fits}
use Rattle.morton.specs.declared.grid.Extents.{Extents}
use Rattle.morton.specs.declared.grid.Cell.{Cell}
use Rattle.morton.specs.grid.Grid.{grid_size}
use Rattle.morton.specs.Key.{key_bits_of, key_of}
use Rattle.morton.specs.axis.Axis.{AxisBits}
use Rattle.morton.proofs.axis.Used.{one_shl}
use Rattle.morton.proofs.From.{key_below}
use Rattle.morton.specs.declared.plan.Plan.{Plan}
use Rattle.morton.specs.spread.Spread.{spread}
use Rattle.morton.specs.plan.Parts.{low_key, coarse_grid, coarse_cell, rest_key, Planned, Shared}
use Rattle.morton.proofs.plan.Turns.{key_by_parts, coarse_sum, all-shared}

past_axis : {size k i : ℕ} → AxisBits size k → k ≤ i → 2 ^ i < size → ⊥
past_axis x h s = omega (arith, x.holds, pow_mono h)

module _ (g : Extents) (few : key_bits_of g ≤ 64) {a b d m l : ℕ} (x : AxisBits g.x a) (y : AxisBits g.y b) (z : AxisBits g.z d)
    (em : m ≡ min a b) (el : l ≡ min m d) where
  la : l ≤ a
  la = omega arith

  lb : l ≤ b
  lb = omega arith

  ld : l ≤ d
  ld = omega arith

  -- one of the axes is held by that many bits, so no later turn uses it
  shares-no-more : (i : ℕ) → l ≤ i → Shared g i → ⊥
  shares-no-more i h s = by_axis (dec_lt i a) (dec_lt i b)
    where
      by_axis : Dec (i < a) → Dec (i < b) → ⊥
      by_axis (no n) q = past_axis x (omega arith) s.x
      by_axis (yes p) (no n) = past_axis y (omega arith) s.y
      by_axis (yes p) (yes q) = past_axis z (omega arith) s.z

  pub low-few : l < 32
  low-few = omega (arith, coarse_sum g x y z la lb ld)

  pub planned : g.x < 2 ^ 32 → g.y < 2 ^ 32 → g.z < 2 ^ 32 → {r : Extents} → r ≡ coarse_grid l g → {n : ℕ} → n ≡ key_bits_of r
      → Planned (record { grid = g; low = l; rest = r; bits = n })
  planned wx wy wz {r} e k =
      record {
        words = record { x = wx; y = wy; z = wz };
        few = few;
        most = omega (arith, coarse_sum g x y z la lb ld);
        shared = all-shared g x y z la lb ld;
        all = shares-no-more;
        rest = e;
        bits = k;
        left = rw e (omega (arith, coarse_sum g x y z la lb ld));
      }

pub coarse_made : (g : Extents) (n : ℕ) {x y z : ℕ} → n < 32 → x ≡ grid_size g.x (1 * 2 ^ n % 2 ^ 32) → y ≡ grid_size g.y (1 * 2 ^ n % 2 ^ 32) → z ≡ grid_size g.z (1 * 2 ^ n % 2 ^ 32)
    → ◌≡◌ {A = Extents} (record { x = x; y = y; z = z }) (coarse_grid n g)
unfolding coarse_grid
coarse_made g n l p q r = rw (← one_shl n 32 l) (λ t. record { x = p t; y = q t; z = r t })

-- ---- the key
-- no turn is shared
pub low-none : (n : ℕ) (c : Cell) → n ≡ 0 → 0 ≡ low_key n c
unfolding low_key spread
low-none n c e = rw e

pub low_sum : (n : ℕ) (c : Cell) {x y z : ℕ} → x ≡ spread n c.x → y ≡ spread n c.y → z ≡ spread n c.z → x + 2 * y + 4 * z ≡ low_key n c
unfolding low_key
low_sum n c p q r = rw (p, q, r)

module _ (p : Plan) (c : Cell) (w : Planned p) where
  whole : low_key p.low c + rest_key p.low p.grid c ≡ key_of p.grid c
  whole = sym (key_by_parts p.grid c p.low w.words w.shared)

  fits : key_of p.grid c < 2 ^ 64
  fits = lt_of_lt_of_le (key_below p.grid c) (pow_mono w.few)

  -- no bit is left
  pub no-rest : p.bits ≡ 0 → 0 ≡ rest_key p.low p.grid c
  unfolding rest_key
  no-rest h =
      let e : key_bits_of p.rest ≡ 0 = sym w.bits ∙ h in
      let z : key_of p.rest (coarse_cell p.low c) < 1 = rw e at (key_below p.rest (coarse_cell p.low c)) in
      let y : key_of p.rest (coarse_cell p.low c) ≡ 0 = omega arith in
      rw (← w.rest, y) (omega arith)

  module _ {d : Cell} (f : d ≡ coarse_cell p.low c) {r : ℕ} (q : r ≡ key_of p.rest d) where
    raised : r * 2 ^ (3 * p.low) ≡ rest_key p.low p.grid c
    unfolding rest_key
    raised = rw (q, f, w.rest)

    pub rest_raise : r * 2 ^ (3 * p.low) < 2 ^ 64
    rest_raise = omega (arith, raised, whole, fits)

    pub rest_raised : {k : ℕ} → k ≡ r * 2 ^ (3 * p.low) → k ≡ rest_key p.low p.grid c
    rest_raised t = t ∙ raised

  module _ {l r : ℕ} (s : l ≡ low_key p.low c) (t : r ≡ rest_key p.low p.grid c) where
    pub key-sum : l + r ≡ key_of p.grid c
    key-sum = rw (s, t) whole

    pub key-sum-fits : Fits w64 (l + r)
    key-sum-fits = omega (arith, key-sum, fits)
