-- Sums and products that fit, and numbers that may pass 64 bits.
use Prim.Native.Nat.{ℕ, ◌+◌, ◌-◌, ◌*◌, ◌<◌, ◌≤◌, ◌^◌, min}
use mathlib.Core.Logic.{⊎_elim}
use mathlib.Core.Path.{◌≡◌, refl, sym, ap, ◌∙◌}
use mathlib.Core.Bool.{Bool, true, false}
use native.Mathlib.Omega.{arith}
use native.Mathlib.Nat.{mul-le-mul}
use lib.Dec.{ltb}
use mir.Syntax.{w32, w64}
use mir.Val.{Fits}
use borrow.Author.Tests.{lt-ltb, le-ltb, ltb-true, ltb-false}
use Rattle.std.specs.Prelude.{Option, Some, None}
use Rattle.compressed_segmentation.proofs.block.Greatest.{within-or-past}
use Rattle.compressed_segmentation.specs.packed_values.Far.{sum_below}

-- ---- u32s

pub product-most : (a b : ℕ) → a < 4294967296 → b < 4294967296 → a * b ≤ 18446744065119617025
product-most a b h k = mul-le-mul {n₂ = 4294967295} {m₂ = 4294967295} (omega arith) (omega arith)

pub product-fits : (a b : ℕ) → Fits w32 a → Fits w32 b → Fits w64 (a * b)
product-fits a b h k = let p = product-most a b (omega arith) (omega arith) in omega arith

-- ---- sums below a limit

pub sum_past : (n limit : ℕ) → None ≡ sum_below n limit → limit ≤ n
unfolding sum_below
sum_past n limit e = go (ltb n limit) refl
  where
    go : (b : Bool) → ltb n limit ≡ b → limit ≤ n
    go true q = let z : ◌≡◌ {A = ℕ} 0 1 = cc (rw q at e) in omega arith
    go false q = ltb-false n limit q

pub sum-at : (n limit : ℕ) {i : ℕ} → Some i ≡ sum_below n limit → (i ≡ n) × (n < limit)
unfolding sum_below
sum-at n limit {i} e = go (ltb n limit) refl
  where
    go : (b : Bool) → ltb n limit ≡ b → (i ≡ n) × (n < limit)
    go true q = let f = rw q at e in (cc, ltb-true n limit q)
    go false q = let z : ◌≡◌ {A = ℕ} 0 1 = cc (rw q at e) in (omega arith, omega arith)

-- of an answer r to such a question
pub told-past : {r : Option ℕ} {n limit : ℕ} → r ≡ sum_below n limit → r ≡ None → limit ≤ n
told-past {r} {n} {limit} e f = sum_past n limit (sym f ∙ e)

pub told_at : {r : Option ℕ} {n limit i : ℕ} → r ≡ sum_below n limit → r ≡ Some i → (i ≡ n) × (n < limit)
told_at {r} {n} {limit} e f = sum-at n limit (sym f ∙ e)

pub told_below : {r : Option ℕ} {limit i : ℕ} (n : ℕ) → r ≡ sum_below n limit → r ≡ Some i → i < limit
told_below n e f = let p = told_at e f in omega arith

pub told-below-same : {r : Option ℕ} {limit i : ℕ} (n w : ℕ) → r ≡ sum_below n w → w ≡ limit → r ≡ Some i → i < limit
told-below-same n w e g f = let p = told_at e f in omega arith

pub told-before : {r : Option ℕ} {limit i : ℕ} (n : ℕ) → r ≡ sum_below n limit → r ≡ Some i → i - 1 < limit
told-before n e f = let p = told_at e f in omega arith

pub told-some : {r : Option ℕ} {i : ℕ} (n limit : ℕ) → r ≡ sum_below (n + 1) limit → r ≡ Some i → 1 ≤ i
told-some n limit e f = let p = told_at e f in omega arith

-- the answer to such a question
pub below-none : (n limit : ℕ) → limit ≤ n → None ≡ sum_below n limit
unfolding sum_below
below-none n limit h = rw (le-ltb n limit h)

pub below-some : (n limit : ℕ) {sum : ℕ} → sum ≡ n → sum < limit → Some sum ≡ sum_below n limit
unfolding sum_below
below-some n limit {sum} e h = let f : n < limit = omega arith in rw (lt-ltb n limit f) (ap Some e)

-- a number that was cut off at 128 bits
pub capped : (n limit : ℕ) {m : ℕ} → m ≡ min n (2 ^ 128 - 1) → Fits w64 limit → sum_below m limit ≡ sum_below n limit
capped n limit {m} e f =
    ⊎_elim
    (λ (l : limit ≤ n). sym (below-none m limit (omega arith)) ∙ below-none n limit l)
    (λ (l : n < limit). let k : m ≡ n = omega arith in ap (λ (x : ℕ). sum_below x limit) k)
    (within-or-past limit n)

-- twice a number, and one more
pub twice : (o n : ℕ) {d e w limit : ℕ} {r : Option ℕ} → d ≡ min (n * 2) (2 ^ 128 - 1) → e ≡ min (d + (o + 1)) (2 ^ 128 - 1) → r ≡ sum_below e w → w ≡ limit → Fits w64 w
    → r ≡ sum_below (o + 2 * n + 1) limit
twice o n {d} {e} {w} {limit} h k q g f =
    let c : e ≡ min (o + 2 * n + 1) (2 ^ 128 - 1) = omega arith in
    q ∙ capped (o + 2 * n + 1) w c f ∙ ap (sum_below (o + 2 * n + 1)) g
