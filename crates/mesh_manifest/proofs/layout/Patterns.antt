-- Reals and their patterns: finite by the bits and by the value, and the bits of a real that was read.
use Prim.Native.Nat.{ℕ, zero, suc, ◌+◌, ◌/◌, ◌%◌, ◌^◌, ◌<◌}
use mathlib.Core.Path.{◌≡◌, refl, sym, ap, ◌∙◌, subst}
use mathlib.Core.Bool.{Bool, true, false, not, cond}
use lib.Dec.{T, leb, eqb}
use lib.Pow.{field}
use lib.Ieee.{Float, nan, inf, fin, binary32, is_nan, nan_bits, of_bits, of_fields, odd, to_bits}
use lib.Ieee.Bits.{to_bits-of_bits, nan_bits_is}
use Rattle.mesh_manifest.specs.layout.Bits.{finite_bits}

-- ---- finite by its bits, and as a value

unfoldable pub finite_value : Float → Bool
finite_value nan = false
finite_value (inf s) = false
finite_value (fin s m e) = true

odd_finite : (d : ℕ) (s : Bool) (q k l : ℕ) → finite_value (odd d s q k l) ≡ true
unfolding finite_value odd
odd_finite d s zero k l = refl
odd_finite d s (suc q) k l = refl

pick-finite : (b c : Bool) (s : Bool) (x : Float) → finite_value x ≡ true → finite_value (cond b (cond c (inf s) nan) x) ≡ not b
unfolding finite_value
pick-finite true true s x h = refl
pick-finite true false s x h = refl
pick-finite false c s x h = h

fields_finite : (s : Bool) (x t : ℕ) → finite_value (of_fields binary32 s x t) ≡ not (eqb x 255)
unfolding of_fields
fields_finite s zero t = odd_finite 24 s t 0 149
fields_finite s (suc x) t = pick-finite (eqb (suc x) 255) (eqb t 0) s _ (odd_finite 24 s (8388608 + t) x 149)

pub finite_of_bits : (b : ℕ) → finite_value (of_bits binary32 b) ≡ finite_bits b
unfolding of_bits finite_bits
finite_of_bits b = fields_finite (leb (2 ^ 31) b) (b % 2 ^ 31 / 2 ^ 23) (b % 2 ^ 23) ∙ ap (λ (n : ℕ). not (eqb n 255)) (field b 8 23)

finite-no_nan : (x : Float) → T (finite_value x) → T (not (is_nan x))
unfolding finite_value is_nan
finite-no_nan nan t = t
finite-no_nan (inf s) t = tt
finite-no_nan (fin s m e) t = tt

pub real-number : (b : ℕ) → T (finite_bits b) → T (not (is_nan (of_bits binary32 b)))
real-number b t = finite-no_nan (of_bits binary32 b) (subst T (sym (finite_of_bits b)) t)

-- what `f32::from_bits` asks
pub no_nan : (b : ℕ) → T (finite_bits b) → T (not (nan_bits binary32 b))
no_nan b t =
    subst (λ (c : Bool). T (not c)) (sym (nan_bits_is binary32 b))
    (real-number b t)

-- ---- the bits of a real that was read are the file's

pub bits_back : (b : ℕ) → b < 2 ^ 32 → T (finite_bits b) → to_bits binary32 (of_bits binary32 b) ≡ b
bits_back b h t = to_bits-of_bits binary32 b h (real-number b t)
