-- How many voxels lie before a place: each way out of `voxels_before`, shaped like its needs.
use Prim.Native.Nat.{ℕ, ◌+◌, ◌-◌, ◌≤◌, ◌<◌, min}
use mathlib.Core.Path.{◌≡◌, refl, sym, ap, ◌∙◌}
use mathlib.Core.Bool.{Bool, true, false}
use native.Mathlib.Omega.{arith}
use native.Mathlib.Nat.{le_trans}
use borrow.Author.Tests.{leb-true, leb-false}
use lib.Dec.{T, leb}
use lib.IntN.{ℤ, pos, negsuc, nat_abs, ◌+ℤ◌, ◌-ℤ◌}
use lib.Signed.{le_z, non_neg}
use mir.Syntax.{w32, w64}
use mir.Val.{Fits, SFits, to_z, of_z}
use mir.Facts.{to_z-of_z, to_z_pos}
use Rattle.morton.proofs.bounds.Signed.{sum_fits, widened}
use Rattle.cover.specs.overlap.Marked.{natural, before}
use Rattle.cover.proofs.overlap.Places.{below, above, above-le, above-sum, below-sum, difference}

-- a difference that is above 0
natural_pos : (z : ℤ) → 0 < natural z → z ≡ pos (natural z)
unfolding natural
natural_pos (pos n) h = refl
natural_pos (negsuc n) h = absurd (omega arith)

module _ (o : ℤ) (size : ℕ) (place : ℤ) (fo : SFits w32 o) (fs : Fits w32 size) (fp : SFits w64 place) where
  n : ℕ
  n = below o + below place

  low_o : below o ≤ n
  unfolding n
  low_o = omega arith

  low_p : below place ≤ n
  unfolding n
  low_p = omega arith

  before-is : before o size place ≡ min size (above n place - above n o)
  unfolding before
  before-is = rw (difference n place o low_p low_o)

  -- the locals, read back
  begin-is : to_z w64 (of_z w64 (to_z w32 (of_z w32 o))) ≡ o
  begin-is = to_z-of_z (widened fo) ∙ to_z-of_z fo

  size_is : to_z w64 size ≡ pos size
  size_is = to_z_pos w64 (omega arith)

  end_is : to_z w64 (of_z w64 (to_z w64 (of_z w64 (to_z w32 (of_z w32 o))) +ℤ to_z w64 size)) ≡ o +ℤ pos size
  end_is = rw (begin-is, size_is) (to_z-of_z (sum_fits fo (omega arith)))

  pub end_fits : SFits w64 (to_z w64 (of_z w64 (to_z w32 (of_z w32 o))) +ℤ to_z w64 size)
  end_fits = rw (begin-is, size_is) (sum_fits fo (omega arith))

  place-test : (t : Bool) → le_z (to_z w64 (of_z w64 place)) (to_z w64 (of_z w64 (to_z w32 (of_z w32 o)))) ≡ t → leb (above n place) (above n o) ≡ t
  place-test t e = sym (above-le n place o low_p low_o) ∙ rw (to_z-of_z fp, begin-is) at e

  end_test_lem : (t : Bool) → le_z (to_z w64 (of_z w64 (to_z w64 (of_z w64 (to_z w32 (of_z w32 o))) +ℤ to_z w64 size))) (to_z w64 (of_z w64 place)) ≡ t
      → leb (above n o + size) (above n place) ≡ t
  end_test_lem t e =
      ap (λ (x : ℕ). leb x (above n place)) (sym (above-sum n o size low_o))
      ∙ sym (above-le n (o +ℤ pos size) place (le_trans (below-sum o size) low_o) low_p) ∙ rw (to_z-of_z fp, end_is) at e

  pub none_before : le_z (to_z w64 (of_z w64 place)) (to_z w64 (of_z w64 (to_z w32 (of_z w32 o)))) ≡ true → ◌≡◌ {A = ℕ} 0 (before o size place)
  none_before e = rw before-is (omega (arith, leb-true (above n place) (above n o) (place-test true e)))

  pub all-before : le_z (to_z w64 (of_z w64 (to_z w64 (of_z w64 (to_z w32 (of_z w32 o))) +ℤ to_z w64 size))) (to_z w64 (of_z w64 place)) ≡ true
      → size ≡ before o size place
  all-before e = rw before-is (omega (arith, leb-true (above n o + size) (above n place) (end_test_lem true e)))

  module _ (p : le_z (to_z w64 (of_z w64 place)) (to_z w64 (of_z w64 (to_z w32 (of_z w32 o)))) ≡ false)
      (q : le_z (to_z w64 (of_z w64 (to_z w64 (of_z w64 (to_z w32 (of_z w32 o))) +ℤ to_z w64 size))) (to_z w64 (of_z w64 place)) ≡ false) where
    abbrev far : ℕ
    far = natural (place -ℤ o)

    far-is : (far ≡ before o size place) × (0 < far) × (far < size)
    unfolding before
    far-is =
        let d = difference n place o low_p low_o in
        let a = leb-false (above n place) (above n o) (place-test false p) in
        let b = leb-false (above n o + size) (above n place) (end_test_lem false q) in
        (omega arith, omega arith, omega arith)

    apart : to_z w64 (of_z w64 place) -ℤ to_z w64 (of_z w64 (to_z w32 (of_z w32 o))) ≡ pos far
    apart = rw (to_z-of_z fp, begin-is) (natural_pos (place -ℤ o) far-is.1)

    pub apart_fits : SFits w64 (to_z w64 (of_z w64 place) -ℤ to_z w64 (of_z w64 (to_z w32 (of_z w32 o))))
    apart_fits = rw apart (record { sfits = omega (arith, far-is.2) })

    apart-read : to_z w64 (of_z w64 (to_z w64 (of_z w64 place) -ℤ to_z w64 (of_z w64 (to_z w32 (of_z w32 o))))) ≡ pos far
    apart-read = to_z-of_z apart_fits ∙ apart

    pub apart_pos : T (non_neg (to_z w64 (of_z w64 (to_z w64 (of_z w64 place) -ℤ to_z w64 (of_z w64 (to_z w32 (of_z w32 o)))))))
    apart_pos = rw apart-read tt

    pub apart-fit : Fits w32 (nat_abs (to_z w64 (of_z w64 (to_z w64 (of_z w64 place) -ℤ to_z w64 (of_z w64 (to_z w32 (of_z w32 o)))))))
    apart-fit = rw apart-read (record { fits = omega (arith, far-is.2) })

    pub apart-is : nat_abs (to_z w64 (of_z w64 (to_z w64 (of_z w64 place) -ℤ to_z w64 (of_z w64 (to_z w32 (of_z w32 o)))))) ≡ before o size place
    apart-is = rw apart-read far-is.0
