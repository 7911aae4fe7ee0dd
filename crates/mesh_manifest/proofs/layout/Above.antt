-- Above zero by the bits is above zero as a value.
use Prim.Native.Nat.{ℕ, zero, suc, ◌+◌, ◌*◌, ◌/◌, ◌%◌, ◌^◌, ◌<◌}
use mathlib.Core.Path.{◌≡◌, refl, sym, ap, ◌∙◌, subst}
use mathlib.Core.Bool.{Bool, true, false, not, ◌&&◌}
use native.Mathlib.Nat.{zero-mul, mul-pos}
use native.Mathlib.Omega.{arith}
use lib.Dec.{T, T_not, leb, ltb, eqb}
use lib.Pow.{field, pow_pos}
use lib.IntN.{ℤ, pos}
use lib.Ieee.{fin, binary32, up, down, of_bits, of_fields, odd, lt}
use lib.Ieee.Bits.{is_true}
use lib.Ieee.Fits.{up_pos}
use lib.Ieee.Exact.{odd_sign}
use lib.Ieee.Positive.{positive, positive_of_value}
use borrow.Author.Tests.{lt-ltb, le-ltb, leb-true, leb-false, ne_eqb}
use Rattle.mesh_manifest.specs.layout.Bits.{finite_bits, above_zero}

-- ---- above zero by its bits, and as a value

lt-zero : (s : Bool) (m : ℕ) (e : ℤ) → lt (fin false 0 (pos 0)) (fin s m e) ≡ positive (fin s m e)
unfolding lt
lt-zero true m e = refl
lt-zero false m e = go m
  where
    z : 0 * 1 * down e ≡ 0
    z = zero-mul (down e)

    go : (m : ℕ) → ltb (0 * 1 * down e) (m * up e * 1) ≡ ltb 0 m
    go zero = rw (z, zero-mul (up e))
    go (suc m) =
        let p : 0 < suc m * up e = mul-pos (omega arith) (up_pos e) in
        rw z (lt-ltb 0 (suc m * up e * 1) (omega arith) ∙ sym (lt-ltb 0 (suc m) (omega arith)))

odd_above : (s : Bool) (d q k l : ℕ) → lt (fin false 0 (pos 0)) (odd d s q k l) ≡ (not s && ltb 0 q)
unfolding odd
odd_above true d zero k l = unfold lt in refl
odd_above false d zero k l = unfold lt in refl
odd_above true d (suc q) k l = unfold lt in refl
odd_above false d (suc q) k l =
    lt-zero false _ _
    ∙ is_true _ (positive_of_value (odd d false (suc q) k l) (suc q * 2 ^ k) (2 ^ l) (odd_sign d false (suc q) k l) (mul-pos (omega arith) (pow_pos k)))
    ∙ sym (lt-ltb 0 (suc q) (omega arith))

fields_above : (s : Bool) (x t : ℕ) → (x ≡ 255 → ⊥) → lt (fin false 0 (pos 0)) (of_fields binary32 s x t) ≡ (not s && ltb 0 (x * 8388608 + t))
unfolding of_fields
fields_above s zero t h = let e : t ≡ 0 * 8388608 + t = omega arith in odd_above s 24 t 0 149 ∙ ap (λ (n : ℕ). not s && ltb 0 n) e
fields_above s (suc x) t h =
    rw (ne_eqb (suc x) 255 h)
    (odd_above s 24 (8388608 + t) x 149
    ∙ ap (λ (b : Bool). not s && b) (lt-ltb 0 (8388608 + t) (omega arith) ∙ sym (lt-ltb 0 (suc x * 8388608 + t) (omega arith))))

sign_above : (b x t : ℕ) → x * 8388608 + t ≡ b % 2 ^ 31 → (not (leb (2 ^ 31) b) && ltb 0 (x * 8388608 + t)) ≡ above_zero b
unfolding above_zero
sign_above b x t e = go (leb (2 ^ 31) b) refl
  where
    no : (c : Bool) → false ≡ (c && false)
    no true = refl
    no false = refl

    yes' : (c : Bool) → c ≡ (c && true)
    yes' true = refl
    yes' false = refl

    go : (s : Bool) → leb (2 ^ 31) b ≡ s → (not s && ltb 0 (x * 8388608 + t)) ≡ above_zero b
    go true q = rw (le-ltb b (2 ^ 31) (leb-true (2 ^ 31) b q)) (no (ltb 0 b))
    go false q =
        let l : b < 2 ^ 31 = leb-false (2 ^ 31) b q in
        let f : x * 8388608 + t ≡ b = omega arith in
        rw (f, lt-ltb b (2 ^ 31) l) (yes' (ltb 0 b))

not_255 : (n : ℕ) → T (not (eqb n 255)) → n ≡ 255 → ⊥
not_255 n t e = T_not (eqb n 255) t (subst (λ (k : ℕ). T (eqb k 255)) (sym e) tt)

-- a finite pattern's real is above zero exactly where the bits say so
pub above_by_bits : (b : ℕ) → T (finite_bits b) → lt (of_bits binary32 0) (of_bits binary32 b) ≡ above_zero b
unfolding of_bits finite_bits
above_by_bits b t =
    let x : ℕ = b % 2 ^ 31 / 2 ^ 23 in
    let f : x ≡ b / 2 ^ 23 % 256 = field b 8 23 in
    let m : b % 2 ^ 23 ≡ b % 2 ^ 31 % 2 ^ 23 = omega arith in
    let d : x * 8388608 + b % 2 ^ 23 ≡ b % 2 ^ 31 = omega arith in
    fields_above (leb (2 ^ 31) b) x (b % 2 ^ 23) (λ e. not_255 (b / 2 ^ 23 % 256) t (sym f ∙ e)) ∙ sign_above b x (b % 2 ^ 23) d
