-- A signed number z in a local of width w, which is read back from its bits: by its sign, what z or -1 - z is and that it is no negative number. Each law has the shape of a need.
use Prim.Native.Nat.{ℕ, suc, ◌^◌, ◌<◌}
use mathlib.Core.Path.{◌≡◌, refl, ap, ◌∙◌}
use mathlib.Core.Bool.{true, false}
use native.Mathlib.Omega.{arith}
use borrow.Author.Tests.{ltb-true}
use lib.Dec.{T, leb}
use lib.IntN.{ℤ, pos, negsuc, nat_abs, ◌-ℤ◌, pred_ℤ, pred_ℤ-+ℤ, +ℤ_idl}
use lib.Signed.{mag, lt_z, non_neg}
use mir.Syntax.{Width, w8, w16, w32, w64, w128}
use mir.Val.{Fits, SFits, bits, hbits, to_z, of_z}
use mir.Facts.{to_z-of_z, Fits-bits}

-- -1 - z, for a negative z
complement : (z : ℤ) → lt_z z (pos 0) ≡ true → negsuc 0 -ℤ z ≡ pos (mag z)
complement (pos n) t = let h : n < 0 = ltb-true n 0 t in absurd (omega arith)
complement (negsuc n) t = pred_ℤ-+ℤ (pos 0) (pos (suc n)) ∙ ap pred_ℤ (+ℤ_idl (pos (suc n)))

same : (z : ℤ) → lt_z z (pos 0) ≡ false → z ≡ pos (mag z)
same (pos n) t = refl
same (negsuc n) t = let h : ◌≡◌ {A = ℕ} 0 1 = cc in absurd (omega arith)

-- half of the range is in the range
shorter : (w : Width) → T (leb (hbits w) (bits w))
shorter w8 = tt
shorter w16 = tt
shorter w32 = tt
shorter w64 = tt
shorter w128 = tt

within : (w : Width) (n : ℕ) → n < 2 ^ hbits w → Fits w n
within w n h = Fits-bits (hbits w) (shorter w) h

module _ {w : Width} (z : ℤ) (f : SFits w z) where
  module _ (t : lt_z (to_z w (of_z w z)) (pos 0) ≡ true) where
    less : negsuc 0 -ℤ to_z w (of_z w z) ≡ pos (mag z)
    less = rw (to_z-of_z f) (complement z (rw (to_z-of_z f) at t))

    pub less_fits : SFits w (negsuc 0 -ℤ to_z w (of_z w z))
    less_fits = rw less (record { sfits = f.sfits })

    pub less_is : to_z w (of_z w (negsuc 0 -ℤ to_z w (of_z w z))) ≡ pos (mag z)
    less_is = to_z-of_z less_fits ∙ less

    pub less_pos : T (non_neg (to_z w (of_z w (negsuc 0 -ℤ to_z w (of_z w z)))))
    less_pos = rw less_is tt

    pub less_fit : Fits w (nat_abs (to_z w (of_z w (negsuc 0 -ℤ to_z w (of_z w z)))))
    less_fit = rw less_is (within w (mag z) f.sfits)

  module _ (t : lt_z (to_z w (of_z w z)) (pos 0) ≡ false) where
    pub kept : to_z w (of_z w z) ≡ pos (mag z)
    kept = to_z-of_z f ∙ same z (rw (to_z-of_z f) at t)

    pub kept_pos : T (non_neg (to_z w (of_z w z)))
    kept_pos = rw kept tt

    pub kept-fit : Fits w (nat_abs (to_z w (of_z w z)))
    kept-fit = rw kept (within w (mag z) f.sfits)
