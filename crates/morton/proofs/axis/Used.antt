-- Which turns use an axis, and how many: the length in bits of its last coordinate.
use Prim.Native.Nat.{ℕ, zero, suc, ◌+◌, ◌-◌, ◌*◌, ◌%◌, ◌^◌, ◌≤◌, ◌<◌}
use mathlib.Core.Path.{◌≡◌, ap, ◌∙◌}
use mathlib.Core.Bool.{true, false}
use native.Mathlib.Omega.{arith}
use native.Mathlib.Nat.{pow-suc, le_trans}
use native.Mathlib.Decide.{dec_lt}
use lib.Count.{count_leading_zeros, leading_length}
use lib.Dec.{ltb}
use lib.Pow.{pow_mono, shl_exact}
use borrow.Author.Tests.{lt-ltb, le-ltb}
use Rattle.morton.specs.axis.Axis.{used, count, used_turns, AxisBits}

pub used-yes : {g : ℕ} (i : ℕ) → 2 ^ i < g → used g i ≡ true
unfolding used
used-yes {g} i h = lt-ltb (2 ^ i) g h

pub unused : {g : ℕ} (i : ℕ) → g ≤ 2 ^ i → used g i ≡ false
unfolding used
unused {g} i h = le-ltb (2 ^ i) g h

pub one_shl : (k w : ℕ) → k < w → 1 * 2 ^ k % 2 ^ w ≡ 2 ^ k
one_shl k w h = shl_exact {a = 1} 1 k w (omega arith) (omega arith) ∙ omega arith

pub below-size : (g i : ℕ) → i < 32 → ltb (1 * 2 ^ i % 2 ^ 32) g ≡ used g i
unfolding used
below-size g i h = ap (λ (x : ℕ). ltb x g) (one_shl i 32 h)

count-used : (g i : ℕ) → 2 ^ i < g → count (used g i) ≡ 1
unfolding count
count-used g i h = rw (used-yes i h)

count-unused : (g i : ℕ) → g ≤ 2 ^ i → count (used g i) ≡ 0
unfolding count
count-unused g i h = rw (unused i h)

-- r turns use the axis: those below r do, and none from r on
module _ (g r : ℕ) (top : g ≤ 2 ^ r) (below : (i : ℕ) → i < r → 2 ^ i < g) where
  one_more : (n i : ℕ) → used_turns n (suc i) g ≡ r - suc i → Dec (i < r) → count (used g i) + used_turns n (suc i) g ≡ r - i
  one_more n i ih (yes l) = omega (arith, count-used g i (below i l))
  one_more n i ih (no l) = omega (arith, count-unused g i (le_trans top (pow_mono (omega arith))))

  used-turns : (n i : ℕ) → r ≤ i + n → used_turns n i g ≡ r - i
  unfolding used_turns
  used-turns zero i h = omega arith
  used-turns (suc n) i h = one_more n i (used-turns n (suc i) (omega arith)) (dec_lt i r)

  pub axis_bits_are : r ≤ 32 → AxisBits g r
  axis_bits_are h = record { is = omega (arith, used-turns 32 0 h); most = h; holds = top; needs = below }

pub no_axis_bits : (g : ℕ) → g ≡ 0 → AxisBits g 0
no_axis_bits g e = axis_bits_are g 0 (omega arith) (λ i l. absurd (omega arith)) (omega arith)

pub axis_bits-found : (g : ℕ) → 0 < g → g < 2 ^ 32 → AxisBits g (32 - count_leading_zeros 32 (g - 1))
axis_bits-found g p h =
    let s = leading_length 32 (g - 1) (omega arith) in
    let e : 32 - count_leading_zeros 32 (g - 1) ≡ s.0 = omega arith in
    rw e (axis_bits_are g s.0 (omega arith) (λ i l. half_below i s.0 l s.3) (omega arith))
  where
    half_below : (i m : ℕ) → i < m → 2 ^ m ≤ 2 * (g - 1) + 1 → 2 ^ i < g
    half_below i m l u = omega (arith, pow_mono l, pow-suc 2 i)
