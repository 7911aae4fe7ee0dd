-- Laws of the greatest of n numbers.
use Prim.Native.Nat.{ℕ, zero, suc, ◌+◌, ◌<◌, ◌≤◌, max}
use mathlib.Core.Path.{◌≡◌, refl, ap, ◌∙◌}
use mathlib.Core.Bool.{Bool, true, false}
use mathlib.Core.Logic.{◌⊎◌, ⊎_elim, inl, inr}
use lib.Dec.{leb}
use borrow.Author.Tests.{leb-true, leb-false}
use native.Mathlib.Omega.{arith}
use native.Mathlib.Numerals.{add-one}
use native.Mathlib.Nat.{not-suc-le-zero, eq-or-lt_of_le, le_of_suc-le-suc, le_antisymm}
use Rattle.compressed_segmentation.specs.block.Checks.{greatest}

-- one way or the other
pub within-or-past : (a b : ℕ) → (a ≤ b) ⊎ (b < a)
within-or-past a b = go (leb a b) refl
  where
    go : (t : Bool) → leb a b ≡ t → (a ≤ b) ⊎ (b < a)
    go true e = inl (leb-true a b e)
    go false e = inr (leb-false a b e)

module _ (f : ℕ → ℕ) where
  pub greatest-none : 0 ≡ greatest f 0
  unfolding greatest
  greatest-none = refl

  pub greatest-step : (i : ℕ) → greatest f (i + 1) ≡ max (greatest f i) (f i)
  unfolding greatest
  greatest-step i = rw add-one

  pub le-greatest : (n i : ℕ) → i < n → f i ≤ greatest f n
  unfolding greatest
  le-greatest zero i h = absurd (not-suc-le-zero h)
  le-greatest (suc n) i h =
      ⊎_elim
      (λ (e : i ≡ n). let p = ap f e in omega arith)
      (λ (k : i < n). let p = le-greatest n i k in omega arith)
      (eq-or-lt_of_le (le_of_suc-le-suc h))

  pub greatest-le : (n b : ℕ) → ((i : ℕ) → i < n → f i ≤ b) → greatest f n ≤ b
  unfolding greatest
  greatest-le zero b g = omega arith
  greatest-le (suc n) b g =
      let p = greatest-le n b (λ i h. g i (omega arith)) in
      let q = g n (omega arith) in
      omega arith

  -- one that none of the others passes
  pub greatest-is : (n i : ℕ) → i < n → ((j : ℕ) → j < n → f j ≤ f i) → f i ≡ greatest f n
  greatest-is n i h g = le_antisymm (le-greatest n i h) (greatest-le n (f i) g)

  pub greatest_still : (i : ℕ) {r : ℕ} → 0 ≡ greatest f i → r ≡ f i → r ≤ 0 → 0 ≡ greatest f (i + 1)
  greatest_still i e q h = omega (arith, greatest-step i)

  pub greatest-all : (n i : ℕ) {r : ℕ} → r ≡ greatest f i → i ≤ n → n ≤ i → r ≡ greatest f n
  greatest-all n i e h k = let q : i ≡ n = omega arith in e ∙ ap (greatest f) q

pub greatest_flat : (f : ℕ → ℕ) (n k : ℕ) → 0 < n → ((i : ℕ) → f i ≡ k) → greatest f n ≡ k
greatest_flat f n k h e =
    let a = le-greatest f n 0 h in
    let b = greatest-le f n k (λ i l. let q = e i in omega arith) in
    let c = e 0 in
    omega arith

-- a greatest above 0 is one of them
pub greatest-at : (f : ℕ → ℕ) (n : ℕ) → 0 < greatest f n → (i : ℕ) × (i < n) × (f i ≡ greatest f n)
unfolding greatest
greatest-at f zero h = absurd (omega arith)
greatest-at f (suc n) h =
    ⊎_elim
    (λ (l : f n ≤ greatest f n).
    let r = greatest-at f n (omega arith) in
    (r.0, omega (arith, r.1), omega (arith, r.2)))
    (λ (l : greatest f n < f n). (n, omega arith, omega arith))
    (within-or-past (f n) (greatest f n))

pub greatest-same : (f g : ℕ → ℕ) (n : ℕ) → ((i : ℕ) → i < n → f i ≡ g i) → greatest f n ≡ greatest g n
unfolding greatest
greatest-same f g zero e = refl
greatest-same f g (suc n) e =
    let p = greatest-same f g n (λ i h. e i (omega arith)) in
    let q = e n (omega arith) in
    omega arith
