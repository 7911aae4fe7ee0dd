-- Each way out of a function, shaped like its needs.
use Prim.Native.Nat.{ℕ, ◌-◌, ◌*◌, ◌/◌, ◌^◌, ◌≤◌, ◌<◌}
use mathlib.Core.Path.{◌≡◌, sym}
use mathlib.Core.Bool.{false}
use native.Mathlib.Omega.{arith}
use native.Mathlib.Nat.{div-lt_iff_lt-mul, le-div_iff_mul-le, mul-le-mul, mul-zero}
use lib.Dec.{ltb}
use borrow.Author.Rules.{rules}
use borrow.Author.Tests.{le-ltb}
use mir.Syntax.{w64}
use mir.Val.{Fits}
use Rattle.cover.specs.declared.overlap.Along.{Along}
use Rattle.cover.specs.overlap.Marked.{marked_width}
use Rattle.cover.proofs.overlap.Tests.{ltb-same}

-- ---- marked cells
pub width_is : (a : Along) {r : ℕ} → r ≡ a.to - a.from → r ≡ marked_width a
unfolding marked_width
width_is a e = e

-- ---- numbers
module _ (a b c : ℕ) where
  pub no-product : b ≡ 0 → false ≡ ltb c (a * b)
  no-product e = rw (e, mul-zero) (sym (le-ltb c 0 (omega arith)))

  pub by_quotient : (b ≡ 0 → ⊥) → ltb (c / b) a ≡ ltb c (a * b)
  by_quotient f =
      let h : 0 < b = omega arith in
      ltb-same (c / b) a c (a * b) (λ l. (div-lt_iff_lt-mul h).0 l) (λ l. (le-div_iff_mul-le h).0 l)

pub face_fits : {a b : ℕ} → a < 2 ^ 32 → b < 2 ^ 32 → Fits w64 (a * b)
face_fits {a} {b} p q =
    let l : a ≤ 4294967295 = omega arith in
    let m : b ≤ 4294967295 = omega arith in
    record { fits = omega (arith, mul-le-mul l m) }

pub face_is : {a b x y : ℕ} → a ≡ x → b ≡ y → a * b ≡ x * y
face_is p q = cc

pub ruleset ways = (width_is, no-product, by_quotient, face_fits, face_is, rules)
