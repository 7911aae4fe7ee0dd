-- Computed reals: the power of two by its pattern, and the test of a real that was computed.
use Prim.Native.Nat.{ℕ, suc, ◌+◌, ◌-◌, ◌*◌, ◌/◌, ◌%◌, ◌^◌, ◌<◌}
use mathlib.Core.Path.{◌≡◌, refl, sym, ap, ◌∙◌, subst}
use mathlib.Core.Bool.{Bool, true, false, not}
use native.Mathlib.Omega.{arith}
use lib.Dec.{T, leb, eqb}
use lib.Ieee.{Float, nan, inf, fin, binary32, fits, is_nan, nan_bits, of_bits, of_fields, odd, to_bits, lt}
use lib.Ieee.Bits.{of_bits-to_bits, nan_bits_is}
use lib.Count.{count_trailing_zeros}
use borrow.Author.Tests.{lt-leb, le-leb, ne_eqb}
use Rattle.mesh_manifest.specs.layout.Bits.{finite_bits}
use Rattle.mesh_manifest.proofs.layout.Patterns.{finite_value, finite_of_bits}
use Rattle.mesh_manifest.specs.reals.Reals.{finite, power_of}

-- a value that an f32 holds is finite exactly when its bits say so
pub finite-value : (x : Float) → T (fits binary32 x) → finite x ≡ finite_value x
unfolding finite
finite-value x h = sym (finite_of_bits (to_bits binary32 x)) ∙ ap finite_value (of_bits-to_bits binary32 x h)

-- ---- the power of two

power_fields : (l : ℕ) → l < 32 → of_bits binary32 ((127 + l) * 8388608) ≡ of_fields binary32 false (suc (126 + l)) 0
unfolding of_bits
power_fields l h =
    let n : ℕ = (127 + l) * 8388608 in
    let e1 : leb (2 ^ 31) n ≡ false = lt-leb (2 ^ 31) n (omega arith) in
    let e2 : n % 2 ^ 31 / 2 ^ 23 ≡ suc (126 + l) = omega arith in
    let e3 : n % 2 ^ 23 ≡ 0 = omega arith in
    rw (e1, e2, e3)

power_odd : (l : ℕ) → l < 32 → of_fields binary32 false (suc (126 + l)) 0 ≡ power_of l
unfolding of_fields odd count_trailing_zeros
power_odd l h =
    let e1 : eqb (suc (126 + l)) 255 ≡ false = ne_eqb (suc (126 + l)) 255 (omega arith) in
    let e2 : leb 149 (126 + l + 23) ≡ true = le-leb 149 (126 + l + 23) (omega arith) in
    let e3 : 126 + l + 23 - 149 ≡ l = omega arith in
    rw (e1, e2, e3)

pub power_bits : (l : ℕ) → l < 32 → of_bits binary32 ((127 + l) * 8388608) ≡ power_of l
power_bits l h = power_fields l h ∙ power_odd l h

pub power_no_nan : (l : ℕ) → l < 32 → T (not (nan_bits binary32 ((127 + l) * 8388608)))
power_no_nan l h =
    subst (λ (c : Bool). T (not c)) (sym (nan_bits_is binary32 ((127 + l) * 8388608) ∙ ap is_nan (power_bits l h)))
    (unfold is_nan in tt)

-- ---- a computed real is finite where it lies between the infinities

below-value : (x : Float) → lt x (of_bits binary32 0x7f80_0000) ≡ true → lt (of_bits binary32 0xff80_0000) x ≡ finite_value x
unfolding lt finite_value of_bits
below-value nan e = refl
below-value (inf true) e = refl
below-value (inf false) e = sym e
below-value (fin s m e) h = refl

not-below-value : (x : Float) → lt x (of_bits binary32 0x7f80_0000) ≡ false → false ≡ finite_value x
unfolding lt finite_value of_bits
not-below-value nan e = refl
not-below-value (inf s) e = refl
not-below-value (fin s m e) h = sym h

pub below_inf : (x : Float) → fits binary32 x ≡ true → lt x (of_bits binary32 0x7f80_0000) ≡ true → lt (of_bits binary32 0xff80_0000) x ≡ finite x
below_inf x h e = below-value x e ∙ sym (finite-value x (subst T (sym h) tt))

pub not-below_inf : (x : Float) → fits binary32 x ≡ true → lt x (of_bits binary32 0x7f80_0000) ≡ false → false ≡ finite x
not-below_inf x h e = not-below-value x e ∙ sym (finite-value x (subst T (sym h) tt))

-- and then is no NaN
pub finite_number : (x : Float) → finite x ≡ true → T (not (is_nan x))
unfolding finite finite_bits to_bits is_nan
finite_number nan e = let z : ◌≡◌ {A = ℕ} 0 1 = cc in absurd (omega arith)
finite_number (inf s) e = tt
finite_number (fin s m x) e = tt
