-- Two's complement, both ways: what `signed`, `bits` and `no_offset` need, and that each undoes the other.
use Prim.Native.Nat.{ℕ, zero, suc, ◌-◌, ◌^◌, ◌≤◌, ◌<◌}
use mathlib.Core.Path.{◌≡◌, refl, ap, ◌∙◌}
use mathlib.Core.Bool.{Bool, true, false, ◌&&◌}
use native.Mathlib.Omega.{arith}
use borrow.Author.Rules.{rules}
use borrow.Author.Tests.{ltb-true, ltb-false, lt-ltb, le-ltb, ne_eqb}
use lib.Dec.{ltb, eqb}
use lib.IntN.{ℤ, pos, negsuc, nat_abs, ◌-ℤ◌}
use lib.Signed.{mag, lt_z}
use mir.Syntax.{w32}
use mir.Val.{Fits, SFits, to_z, of_z, sel}
use mir.Facts.{to_z-of_z, to_z_pos}
use Rattle.refusal.specs.Choice.{pick}
use Rattle.endian.proofs.Signs.{less_fits, less_is, less_pos, less_fit, kept, kept_pos, kept-fit}
use Rattle.morton.specs.declared.grid.Offset.{Offset}
use Rattle.card.specs.fields.Twos.{bits32, is_zero, no_offset, InI32, signed32}

-- ---- each undoes the other

bits_picked : (b : Bool) (u : ℕ) → u < 2 ^ 32 → bits32 (pick b (pos u) (negsuc (2 ^ 32 - suc u))) ≡ u
unfolding bits32
bits_picked true u h = refl
bits_picked false u h = omega arith

pub bits_signed : (u : ℕ) → u < 2 ^ 32 → bits32 (signed32 u) ≡ u
unfolding signed32
bits_signed u h = bits_picked (ltb u (2 ^ 31)) u h

pub signed_bits : (z : ℤ) → InI32 z → signed32 (bits32 z) ≡ z
unfolding signed32 bits32
signed_bits (pos n) h = rw (lt-ltb n (2 ^ 31) h)
signed_bits (negsuc n) h =
    let l : 2 ^ 31 ≤ 2 ^ 32 - suc n = omega arith in
    rw (le-ltb (2 ^ 32 - suc n) (2 ^ 31) l) (ap negsuc (omega arith))

pub bits_below : (z : ℤ) → InI32 z → bits32 z < 2 ^ 32
unfolding bits32
bits_below (pos n) h = omega arith
bits_below (negsuc n) h = omega arith

in_picked : (b : Bool) (u : ℕ) → ltb u (2 ^ 31) ≡ b → u < 2 ^ 32 → InI32 (pick b (pos u) (negsuc (2 ^ 32 - suc u)))
in_picked true u e h = ltb-true u (2 ^ 31) e
in_picked false u e h = omega (arith, ltb-false u (2 ^ 31) e)

pub signed_in : (u : ℕ) → u < 2 ^ 32 → InI32 (signed32 u)
unfolding signed32
signed_in u h = in_picked (ltb u (2 ^ 31)) u refl h

-- ---- from 32 bits

sel_pick : (b : Bool) (x y : ℤ) → sel b x y ≡ pick b x y
sel_pick true x y = refl
sel_pick false x y = refl

pub signed_is : (v : ℕ) → to_z w32 v ≡ signed32 v
unfolding signed32
signed_is v = sel_pick (ltb v (2 ^ 31)) (pos v) (negsuc (2 ^ 32 - suc v))

-- -1 - k
under : (k : ℕ) → negsuc 0 -ℤ pos k ≡ negsuc k
under zero = refl
under (suc n) = ap negsuc (omega arith)

module _ (v : ℕ) (l : 2147483648 ≤ v) (f : Fits w32 v) where
  high : negsuc 0 -ℤ to_z w32 (4294967295 - v) ≡ negsuc (4294967295 - v)
  high = ap (λ (z : ℤ). negsuc 0 -ℤ z) (to_z_pos w32 {n = 4294967295 - v} (omega arith)) ∙ under (4294967295 - v)

  pub high_fits : SFits w32 (negsuc 0 -ℤ to_z w32 (4294967295 - v))
  high_fits = rw high (record { sfits = omega arith })

  pub high_is : to_z w32 (of_z w32 (negsuc 0 -ℤ to_z w32 (4294967295 - v))) ≡ signed32 v
  unfolding signed32
  high_is = to_z-of_z high_fits ∙ high ∙ rw (le-ltb v (2 ^ 31) l) (ap negsuc (omega arith))

-- ---- to 32 bits; an i32 in a local is read back from its bits

neg_bits : (z : ℤ) → lt_z z (pos 0) ≡ true → 4294967295 - mag z ≡ bits32 z
unfolding bits32
neg_bits (pos n) t = let h : n < 0 = ltb-true n 0 t in absurd (omega arith)
neg_bits (negsuc n) t = omega arith

same_bits : (z : ℤ) → lt_z z (pos 0) ≡ false → mag z ≡ bits32 z
unfolding bits32
same_bits (pos n) t = refl
same_bits (negsuc n) t = let h : ◌≡◌ {A = ℕ} 0 1 = cc in absurd (omega arith)

module _ (z : ℤ) (f : SFits w32 z) where
  module _ (t : lt_z (to_z w32 (of_z w32 z)) (pos 0) ≡ true) where
    pub less_most : nat_abs (to_z w32 (of_z w32 (negsuc 0 -ℤ to_z w32 (of_z w32 z)))) ≤ 4294967295
    less_most = rw (less_is z f t) (let h = f.sfits in omega arith)

    pub neg_is : 4294967295 - nat_abs (to_z w32 (of_z w32 (negsuc 0 -ℤ to_z w32 (of_z w32 z)))) ≡ bits32 z
    neg_is = rw (less_is z f t) (neg_bits z (rw (to_z-of_z f) at t))

  pub kept-is : lt_z (to_z w32 (of_z w32 z)) (pos 0) ≡ false → nat_abs (to_z w32 (of_z w32 z)) ≡ bits32 z
  kept-is t = rw (kept z f t) (same_bits z (rw (to_z-of_z f) at t))

-- ---- zero

zero_bits : (z : ℤ) → SFits w32 z → eqb (of_z w32 z) 0 ≡ is_zero z
unfolding is_zero
zero_bits (pos n) f = refl
zero_bits (negsuc n) f = ne_eqb (2 ^ 32 - suc n) 0 (λ (e : 2 ^ 32 - suc n ≡ 0). let h : n < 2 ^ 31 = f.sfits in omega arith)

pub no-offset-is : (o : Offset) → SFits w32 o.x → SFits w32 o.y → SFits w32 o.z
    → (eqb (of_z w32 o.x) 0 && (eqb (of_z w32 o.y) 0 && eqb (of_z w32 o.z) 0)) ≡ no_offset o
unfolding no_offset
no-offset-is o fx fy fz =
    let p = zero_bits o.x fx in
    let q = zero_bits o.y fy in
    let r = zero_bits o.z fz in
    cc

pub ruleset words = (signed_is, high_fits, high_is, less_fits, less_pos, less_fit, less_most, neg_is, kept_pos, kept-fit, kept-is, no-offset-is, rules)
