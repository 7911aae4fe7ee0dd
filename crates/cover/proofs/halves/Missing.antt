-- A half that misses the box: which keys tell it.
use Prim.Native.Nat.{ℕ, ◌+◌, ◌-◌, ◌^◌, ◌≤◌, ◌<◌}
use mathlib.Core.Path.{◌≡◌, refl, sym, ap, ◌∙◌}
use mathlib.Core.Bool.{Bool, true, false}
use native.Mathlib.Omega.{arith}
use native.Mathlib.Decide.{dec_lt}
use native.Mathlib.Nat.{le_refl}
use lib.Bits.{bit_and}
use lib.Dec.{ltb, eqb}
use lib.ListN.{length}
use lib.Pow.{pow_pos}
use borrow.Author.Tests.{le-leb, ltb-true, ltb-false, eqb-true, eqb-false, ne_eqb}
use Rattle.cover.specs.halves.Box.{between, in_box, BoxCorners, half_keys, Beside, begun, ended, Misses}
use Rattle.cover.proofs.overlap.Tests.{not-true-false}
use Rattle.cover.proofs.overlap.Lists.{passing_nothing, passing-some}
use Rattle.cover.proofs.halves.Boxes.{inside}

module _ (x y z low high : ℕ) (c : BoxCorners x y z low high) (l : low ≤ high) where
  -- the two keys that give the box are in it
  low_in : in_box x y z low high low ≡ true
  unfolding in_box between
  low_in =
      rw (
        le-leb (bit_and low x) (bit_and low x) (le_refl _),
        le-leb (bit_and low x) (bit_and high x) c.x,
        le-leb (bit_and low y) (bit_and low y) (le_refl _),
        le-leb (bit_and low y) (bit_and high y) c.y,
        le-leb (bit_and low z) (bit_and low z) (le_refl _),
        le-leb (bit_and low z) (bit_and high z) c.z,
      )

  high_in : in_box x y z low high high ≡ true
  unfolding in_box between
  high_in =
      rw (
        le-leb (bit_and high x) (bit_and high x) (le_refl _),
        le-leb (bit_and low x) (bit_and high x) c.x,
        le-leb (bit_and high y) (bit_and high y) (le_refl _),
        le-leb (bit_and low y) (bit_and high y) c.y,
        le-leb (bit_and high z) (bit_and high z) (le_refl _),
        le-leb (bit_and low z) (bit_and high z) c.z,
      )

  module _ (first n : ℕ) (g : first + 2 ^ n ≤ 2 ^ c.bits) where
    in_range : (k : ℕ) → k < first + 2 ^ n → in_box x y z low high k ≡ true → (low ≤ k) × (k ≤ high)
    in_range k h t = inside x y z low high c low high k (omega (arith, c.fits)) c.fits (omega arith) t

    none-past : high < first → length (half_keys x y z low high first n) ≡ 0
    unfolding half_keys
    none-past m = ap length (passing_nothing _ first (2 ^ n) (λ k a b. not-true-false _ (λ t. omega (arith, (in_range k b t).1))))

    none_before : first + 2 ^ n ≤ low → length (half_keys x y z low high first n) ≡ 0
    unfolding half_keys
    none_before m = ap length (passing_nothing _ first (2 ^ n) (λ k a b. not-true-false _ (λ t. omega (arith, (in_range k b t).0))))

    some-low : first ≤ low → low < first + 2 ^ n → 0 < length (half_keys x y z low high first n)
    unfolding half_keys
    some-low a b = passing-some (in_box x y z low high) first (2 ^ n) low a b low_in

    some-high : first ≤ high → high < first + 2 ^ n → 0 < length (half_keys x y z low high first n)
    unfolding half_keys
    some-high a b = passing-some (in_box x y z low high) first (2 ^ n) high a b high_in

    some-beside : Beside low high first n → low < first + 2 ^ n → first ≤ high → 0 < length (half_keys x y z low high first n)
    some-beside (begun a) b d = some-low a b
    some-beside (ended a) b d = some-high d a

    -- what the answer says of the two keys
    module _ {t : Bool} (m : Misses low high first n t) where
      told : t ≡ eqb (length (half_keys x y z low high first n)) 0
      told = m.told x y z c g

      pub missed-low : t ≡ true → first ≤ low → first + 2 ^ n ≤ low
      missed-low k a = go (dec_lt low (first + 2 ^ n))
        where
          go : Dec (low < first + 2 ^ n) → first + 2 ^ n ≤ low
          go (yes b) = omega (arith, eqb-true (length (half_keys x y z low high first n)) 0 (sym told ∙ k), some-low a b)
          go (no b) = omega arith

      pub met_low : t ≡ false → low < first + 2 ^ n
      met_low k = go (dec_lt low (first + 2 ^ n))
        where
          go : Dec (low < first + 2 ^ n) → low < first + 2 ^ n
          go (yes b) = b
          go (no b) = absurd (eqb-false _ _ (sym told ∙ k) (none_before (omega arith)))

      pub missed-high : t ≡ true → high < first + 2 ^ n → high < first
      missed-high k a = go (dec_lt high first)
        where
          go : Dec (high < first) → high < first
          go (yes b) = b
          go (no b) = let s : first ≤ high = omega arith in omega (arith, eqb-true (length (half_keys x y z low high first n)) 0 (sym told ∙ k), some-high s a)

      pub met_high : t ≡ false → first ≤ high
      met_high k = go (dec_lt high first)
        where
          go : Dec (high < first) → first ≤ high
          go (yes b) = absurd (eqb-false _ _ (sym told ∙ k) (none-past b))
          go (no b) = omega arith

module _ (low high first n : ℕ) (l : low ≤ high) where
  pub past-misses : high < first → Misses low high first n true
  past-misses m = record { told = λ x y z c g. rw (none-past x y z low high c l first n g m) }

  module _ (h : first ≤ high) (b : Beside low high first n) {top : ℕ} (e : top ≡ 2 ^ n) where
    pub rest-misses : Misses low high first n (ltb (first + (top - 1)) low)
    rest-misses = record { told = λ x y z c g. go x y z c g (ltb (first + (top - 1)) low) refl }
      where
        go : (x y z : ℕ) (c : BoxCorners x y z low high) (g : first + 2 ^ n ≤ 2 ^ c.bits) (t : Bool) → ltb (first + (top - 1)) low ≡ t
            → t ≡ eqb (length (half_keys x y z low high first n)) 0
        go x y z c g true q =
            rw (none_before x y z low high c l first n g (omega (arith, ltb-true (first + (top - 1)) low q, pow_pos n)))
        go x y z c g false q =
            let p : low < first + 2 ^ n = omega (arith, ltb-false (first + (top - 1)) low q, pow_pos n) in
            sym (ne_eqb (length (half_keys x y z low high first n)) 0 (λ v. omega (arith, some-beside x y z low high c l first n g b p h)))
