-- Each way out of a function, shaped like its needs.
use Prim.Native.Nat.{ℕ, ◌+◌, ◌-◌, ◌*◌, ◌/◌, ◌%◌, ◌^◌, ◌≤◌, ◌<◌}
use mathlib.Core.Path.{◌≡◌, refl, sym, ◌∙◌}
use mathlib.Core.Bool.{Bool, true, false}
use native.Mathlib.Omega.{arith}
use lib.Bits.{bit_and, bit_or, and_mask, and_le_l}
use lib.Dec.{eqb}
use lib.Pow.{pow_mono, pow_pos}
use borrow.Author.Rules.{rules}
use borrow.Author.Tests.{eqb-true, eqb-false}
use mir.Syntax.{w64}
use mir.Val.{Fits}
use Rattle.morton.proofs.axis.Used.{one_shl}
use Rattle.cover.specs.halves.Box.{BoxCorners, Beside, begun, ended, Misses, SplitAt, Axes, Owns, last_below, first_above}
use Rattle.cover.specs.halves.Halving.{Halvable, Halved, CutBox}
use Rattle.cover.proofs.halves.Boxes.{high_is, axes-at, first-high, z-owns, y-owns, x-owns}
use Rattle.cover.proofs.halves.Missing.{past-misses, rest-misses}

-- ---- one bit
module _ (n : ℕ) (h : n < 64) where
  pub power_is : 1 * 2 ^ n % 2 ^ 64 ≡ 2 ^ n
  power_is = one_shl n 64 h

  pub power_some : 0 < 1 * 2 ^ n % 2 ^ 64
  power_some = rw power_is (pow_pos n)

  pub power_most : 1 * 2 ^ n % 2 ^ 64 ≤ 2 ^ 63
  power_most = let l : n ≤ 63 = omega arith in rw power_is (omega (arith, pow_mono l))

module _ (x y z n : ℕ) (a : Axes x y z n) {t : Bool} (et : t ≡ eqb (z / 2 ^ n % 2) 1) where
  pub z_owned : t ≡ true → Owns x y z n z
  z_owned k = z-owns x y z n a refl (eqb-true _ _ (sym et ∙ k))

  module _ (k : t ≡ false) {u : Bool} (eu : u ≡ eqb (y / 2 ^ n % 2) 1) where
    pub y_owned : u ≡ true → Owns x y z n y
    y_owned l = y-owns x y z n a refl (eqb-false _ _ (sym et ∙ k)) (eqb-true _ _ (sym eu ∙ l))

    pub x_owned : u ≡ false → Owns x y z n x
    x_owned l = x-owns x y z n a refl (eqb-false _ _ (sym et ∙ k)) (eqb-false _ _ (sym eu ∙ l))

-- ---- the halves of what the higher bits leave
pub end_fits : (first n : ℕ) {top : ℕ} → top ≡ 2 ^ n → 0 < top → first + 2 ^ n ≤ 2 ^ 64 → Fits w64 (first + (top - 1))
end_fits first n e p h = record { fits = omega arith }

module _ (low high first n : ℕ) (h : Halvable low high first n) where
  pub lower-whole : first + 2 ^ n ≤ 2 ^ 64
  lower-whole = omega (arith, h.fits)

  pub lower-beside : Beside low high first n
  lower-beside = begun h.from

  module _ {top : ℕ} (e : top ≡ 2 ^ n) where
    pub upper_fits : Fits w64 (first + top)
    upper_fits = record { fits = omega (arith, h.fits, pow_pos n) }

    pub upper-whole : first + top + 2 ^ n ≤ 2 ^ 64
    upper-whole = omega (arith, h.fits)

    pub upper-beside : Beside low high (first + top) n
    upper-beside = ended (omega (arith, h.to))

    pub halved : {t u : Bool} → Misses low high first n t → Misses low high (first + top) n u
        → Halved low high first n (record { lower = record { first = first; misses = t }; upper = record { first = first + top; misses = u } })
    halved m q = record { below = refl; above = rw e; lower = m; upper = rw e at q }

-- ---- the box in two
module _ (x y z low high n : ℕ) (c : BoxCorners x y z low high) (w : SplitAt low high n) where
  pub axes-here : Axes x y z n
  axes-here = axes-at x y z low high n c w

  pub bit_below : 2 ^ n ≤ high
  bit_below = omega (arith, high_is low high n 0 w)

  module _ {own : ℕ} (s : Owns x y z n own) where
    pub first_reach : Fits w64 high → first_above own low n < 2 ^ 64
    first_reach f = omega (arith, first-high x y z low high n own c w s, f.fits)

    pub cut-here : {last first : ℕ} → last ≡ last_below own high n → first ≡ first_above own low n
        → CutBox x y z low high n (record { last = last; first = first })
    cut-here p q = record { own = own; owns = s; last = p; first = q }

-- ---- the halves' corners
module _ (own n : ℕ) {top : ℕ} (e : top ≡ 2 ^ n) where
  pub last_made : (high : ℕ) → bit_or (high - top) (bit_and own (top - 1)) ≡ last_below own high n
  unfolding last_below
  last_made high = rw (e, and_mask own n)

  pub top_below : (high : ℕ) → 2 ^ n ≤ high → top ≤ high
  top_below high h = rw e h

  pub first_made : (low : ℕ) → low - bit_and low (bit_and own (top - 1)) + top ≡ first_above own low n
  unfolding first_above
  first_made low = rw (e, and_mask own n)

  pub first_fits : (low : ℕ) → first_above own low n < 2 ^ 64 → Fits w64 (low - bit_and low (bit_and own (top - 1)) + top)
  first_fits low h = record { fits = rw (first_made low) h }

  pub full_is : (low high : ℕ) → eqb (high - low) (top + (top - 1)) ≡ eqb (high - low) (2 ^ n + (2 ^ n - 1))
  full_is low high = rw e

pub ruleset powers = (power_is, power_some, power_most, rules)

pub ruleset bits = (z_owned, y_owned, x_owned, rules)

pub ruleset missing = (end_fits, past-misses, rest-misses, rules)

pub ruleset halving = (lower-whole, lower-beside, upper_fits, upper-whole, upper-beside, halved, rules)

pub ruleset cutting = (axes-here, bit_below, first_reach, cut-here, rules)

pub ruleset corner = (last_made, top_below, first_made, first_fits, full_is, and_le_l, rules)
