-- Where a packed value stands: `per` voxels of `width` bits to a word.
use Prim.Native.Nat.{ℕ, ◌+◌, ◌*◌, ◌/◌, ◌%◌, ◌<◌, ◌≤◌}
use mathlib.Core.Path.{◌≡◌, refl, sym, ap, ◌∙◌, subst}
use mathlib.Core.Bool.{Bool, true, false, ◌||◌}
use mathlib.Core.Logic.{◌⊎◌, ⊎_elim, inl, inr}
use native.Mathlib.Omega.{arith}
use native.Mathlib.Nat.{mul-add, add-mul, mul_left_comm, mul_right_comm, add-mul-mod_self_left, div-add-mod, mod-lt, mul-div-mul_right, mod-eq_of_lt, mul-lt-mul_of_pos_right}
use lib.Dec.{eqb}
use borrow.Author.Tests.{eqb-true}
use Rattle.compressed_segmentation.specs.Layout.{width_in, is_width}

-- ---- widths

pub record Width (w : ℕ) : Type 0 where
  pub product : 32 / w * w ≡ 32
  pub some : 0 < 32 / w
  pub most : 32 / w ≤ 32
  pub small : w ≤ 32

either : (a b : Bool) → a || b ≡ true → (a ≡ true) ⊎ (b ≡ true)
either true b e = inl refl
either false b e = inr e

pub widths : (w : ℕ) → is_width w ≡ true → 0 < w → Width w
unfolding is_width
widths w e h =
    ⊎_elim (λ q. let z = eqb-true w 0 q in absurd (omega arith)) (λ e1.
    ⊎_elim (λ q. at 1 q (record { product = refl; some = omega arith; most = omega arith; small = omega arith })) (λ e2.
    ⊎_elim (λ q. at 2 q (record { product = refl; some = omega arith; most = omega arith; small = omega arith })) (λ e3.
    ⊎_elim (λ q. at 4 q (record { product = refl; some = omega arith; most = omega arith; small = omega arith })) (λ e4.
    ⊎_elim (λ q. at 8 q (record { product = refl; some = omega arith; most = omega arith; small = omega arith })) (λ e5.
    ⊎_elim (λ q. at 16 q (record { product = refl; some = omega arith; most = omega arith; small = omega arith }))
    (λ q. at 32 q (record { product = refl; some = omega arith; most = omega arith; small = omega arith }))
    (either _ _ e5)) (either _ _ e4)) (either _ _ e3)) (either _ _ e2)) (either _ _ e1)) (either _ _ e)
  where
    at : (k : ℕ) → eqb w k ≡ true → Width k → Width w
    at k q r = subst Width (sym (eqb-true w k q)) r

-- the place of a value in voxels, and the same in bits: a width divides 32
module _ (w m : ℕ) (some : 0 < w) (r : Width w) where
  pub bits-word : m * w / 32 ≡ m / (32 / w)
  bits-word = ap (λ (x : ℕ). m * w / x) (sym r.product) ∙ mul-div-mul_right m (32 / w) some

  pub bits_shift : m * w % 32 ≡ m % (32 / w) * w
  bits_shift =
      let p = 32 / w in
      let l : m % p < p = mod-lt m r.some in
      let k : m % p * w < p * w = mul-lt-mul_of_pos_right l some in
      let d = div-add-mod m p in
      let f : p * (m / p) * w ≡ 32 * (m / p) = mul_right_comm p (m / p) w ∙ ap (λ (x : ℕ). x * (m / p)) r.product in
      let g : m * w ≡ p * (m / p) * w + m % p * w = ap (λ (x : ℕ). x * w) (sym d) ∙ add-mul _ _ w in
      let e : m * w ≡ m % p * w + 32 * (m / p) = omega arith in
      ap (λ (x : ℕ). x % 32) e ∙ add-mul-mod_self_left _ 32 (m / p) ∙ mod-eq_of_lt (omega (arith, r.product))

-- ---- the voxel number low + step * high, `per` to a word

pub regroup : (per low step high : ℕ) → low + step * high ≡ step * (high % per) + low + per * (step * (high / per))
regroup per low step high =
    let d = div-add-mod high per in
    let e : step * high ≡ per * (step * (high / per)) + step * (high % per) =
    ap (◌*◌ step) (sym d) ∙ mul-add step _ _ ∙ ap (λ (x : ℕ). x + step * (high % per)) (mul_left_comm step per (high / per)) in
    omega arith

-- ---- widths as the code uses them

module _ (first : ℕ) (is : is_width (width_in first) ≡ true) (some : 0 < width_in first) where
  pub per_some : 0 < 32 / width_in first
  per_some = (widths _ is some).some

  pub width-most : width_in first ≤ 32
  width-most = (widths _ is some).small
