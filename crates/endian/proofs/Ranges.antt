-- Laws of sums and tests over the numbers below n. Those of a loop's steps have the shape of a need.
use Prim.Native.Nat.{ℕ, zero, suc, ◌+◌, ◌<◌, ◌≤◌}
use mathlib.Core.Path.{◌≡◌, refl, sym, subst, ◌∙◌, ap}
use mathlib.Core.Bool.{Bool, true, false, not, ◌||◌, or-true, true≢false, false≢true}
use mathlib.Core.Logic.{⊎_elim}
use native.Mathlib.Decide.{le_ind}
use native.Mathlib.Nat.{eq-or-lt_of_le, le_of_suc-le-suc, not-suc-le-zero}
use native.Mathlib.Numerals.{add-one}
use native.Mathlib.Omega.{arith}
use lib.Dec.{T}
use lib.Ieee.Fits.{and_l, and_r}
use borrow.Author.Tests.{not-true, not-false}
use Rattle.endian.specs.Range.{sum_to, every, any_below, first}
use Rattle.refusal.proofs.Tests.{neither}

-- ---- sums

module _ (f : ℕ → ℕ) where
  pub sum-none : 0 ≡ sum_to f 0
  unfolding sum_to
  sum-none = refl

  pub sum_step : (i : ℕ) → sum_to f (i + 1) ≡ sum_to f i + f i
  unfolding sum_to
  sum_step i = rw add-one

  pub sum_more : (i : ℕ) {t r : ℕ} → t ≡ sum_to f i → r ≡ f i → t + r ≡ sum_to f (i + 1)
  sum_more i p e = omega (arith, sum_step i)

  pub sum_done : (n i : ℕ) {t : ℕ} → t ≡ sum_to f i → i ≤ n → n ≤ i → t ≡ sum_to f n
  sum_done n i p h k = let e : i ≡ n = omega arith in p ∙ ap (sum_to f) e

  pub sum_grows : (l m : ℕ) → l ≤ m → sum_to f l ≤ sum_to f m
  unfolding sum_to
  sum_grows l m h = le_ind (λ (k : ℕ). sum_to f l ≤ sum_to f k) (omega arith) (λ k g e. omega arith) m h

-- ---- each number

module _ (f : ℕ → Bool) where
  pub every-at : (n : ℕ) → T (every f n) → (i : ℕ) → i < n → T (f i)
  unfolding every
  every-at zero t i h = absurd (not-suc-le-zero h)
  every-at (suc n) t i h =
      ⊎_elim
      (λ (e : i ≡ n). subst (λ (k : ℕ). T (f k)) (sym e) (and_r (every f n) (f n) t))
      (λ (k : i < n). every-at n (and_l (every f n) (f n) t) i k)
      (eq-or-lt_of_le (le_of_suc-le-suc h))

  pub every-all : (n : ℕ) → ((i : ℕ) → i < n → f i ≡ true) → every f n ≡ true
  unfolding every
  every-all zero g = refl
  every-all (suc n) g = rw (every-all n (λ i h. g i (omega arith)), g n (omega arith))

  pub every-none : every f 0 ≡ true
  unfolding every
  every-none = refl

  pub every_more : (i : ℕ) {r : Bool} → every f i ≡ true → r ≡ f i → not r ≡ false → every f (i + 1) ≡ true
  unfolding every
  every_more i {r} p e t = let q : f i ≡ true = sym e ∙ not-false r t in rw (add-one, p, q)

  pub every-fails : (n i : ℕ) {r : Bool} → r ≡ f i → not r ≡ true → i < n → false ≡ every f n
  every-fails n i {r} e t h = go (every f n) (λ (w : T (every f n)). subst T (sym e ∙ not-true r t) (every-at n w i h))
    where
      go : (b : Bool) → (T b → ⊥) → false ≡ b
      go true g = absurd (g tt)
      go false g = refl

  pub every-done : (n i : ℕ) → every f i ≡ true → i ≤ n → n ≤ i → true ≡ every f n
  every-done n i p h k = let e : i ≡ n = omega arith in sym p ∙ ap (every f) e

-- ---- some number

pub any_none : (f : ℕ → Bool) → any_below 0 f ≡ false
unfolding any_below
any_none f = refl

pub any-more : (f : ℕ → Bool) (i : ℕ) → any_below i f ≡ false → f i ≡ false → any_below (i + 1) f ≡ false
unfolding any_below
any-more f i p q = rw (add-one, p, q)

pub any_hit : (f : ℕ → Bool) (n i : ℕ) → i < n → f i ≡ true → any_below n f ≡ true
unfolding any_below
any_hit f zero i l e = absurd (not-suc-le-zero l)
any_hit f (suc n) i l e =
    ⊎_elim
    (λ q. ap (λ (b : Bool). any_below n f || b) (ap f (sym q) ∙ e) ∙ or-true (any_below n f))
    (λ m. rw (any_hit f n i m e))
    (eq-or-lt_of_le (le_of_suc-le-suc l))

pub any-miss : (f : ℕ → Bool) (n i : ℕ) → any_below n f ≡ false → i < n → f i ≡ false
any-miss f n i p l = go (f i) refl
  where
    go : (b : Bool) → f i ≡ b → f i ≡ false
    go true e = absurd (true≢false (sym (any_hit f n i l e) ∙ p))
    go false e = e

any_init : (f : ℕ → Bool) (n : ℕ) → any_below (suc n) f ≡ false → any_below n f ≡ false
unfolding any_below
any_init f n p = (neither _ _ p).0

-- none of n where each of them passes
pub any-no : (f : ℕ → Bool) (n : ℕ) → ((i : ℕ) → i < n → f i ≡ false) → any_below n f ≡ false
unfolding any_below
any-no f zero p = refl
any-no f (suc n) p = rw (any-no f n (λ i l. p i (omega arith)), p n (omega arith))

-- ---- the first of them

pub first-none : (f : ℕ → Bool) (n : ℕ) → any_below n f ≡ false → first f n ≡ n
unfolding first
first-none f zero p = refl
first-none f (suc n) p = rw (any-miss f (suc n) n p (omega arith), any_init f n p)

pub first_hit : (f : ℕ → Bool) (n i : ℕ) → any_below i f ≡ false → i < n → f i ≡ true → first f n ≡ i
unfolding first
first_hit f zero i p l e = absurd (not-suc-le-zero l)
first_hit f (suc n) i p l e =
    ⊎_elim
    (λ q. subst (λ (k : ℕ). first f (suc k) ≡ i) q (rw (p, e)))
    (λ m. rw (any_hit f n i m e) (first_hit f n i p m e))
    (eq-or-lt_of_le (le_of_suc-le-suc l))

pub first-lt : (f : ℕ → Bool) (n : ℕ) → any_below n f ≡ true → first f n < n
unfolding first any_below
first-lt f zero p = absurd (false≢true p)
first-lt f (suc n) p = go (λ e. first-lt f n e) (any_below n f) refl
  where
    go : (any_below n f ≡ true → first f n < n) → (b : Bool) → any_below n f ≡ b → first f (suc n) < suc n
    go ih true e = rw e (let l = ih e in omega arith)
    go ih false e = rw (e, rw e at p) (omega arith)

-- the test holds of the first, where there is one
pub first_holds : (f : ℕ → Bool) (n : ℕ) → first f n < n → f (first f n) ≡ true
unfolding first any_below
first_holds f zero l = absurd (not-suc-le-zero l)
first_holds f (suc n) l = go (λ e. first_holds f n e) (any_below n f) refl (f n) refl
  where
    go : (first f n < n → f (first f n) ≡ true) → (b : Bool) → any_below n f ≡ b → (t : Bool) → f n ≡ t → f (first f (suc n)) ≡ true
    go ih true e t u = rw e (ih (first-lt f n e))
    go ih false e true u = rw (e, u) u
    go ih false e false u = absurd (omega (arith, rw (e, u) at l))

-- it holds of none before it
pub first-before : (f : ℕ → Bool) (n j : ℕ) → j < first f n → f j ≡ false
unfolding first any_below
first-before f zero j l = absurd (not-suc-le-zero l)
first-before f (suc n) j l = go (λ h. first-before f n j h) (any_below n f) refl (f n) refl
  where
    go : (j < first f n → f j ≡ false) → (b : Bool) → any_below n f ≡ b → (t : Bool) → f n ≡ t → f j ≡ false
    go h true e t u = h (rw e at l)
    go h false e true u = any-miss f n j e (rw (e, u) at l)
    go h false e false u = any-miss f (suc n) j (rw (e, u)) (rw (e, u) at l)

-- what an answer `first f n` tells
pub told-some : (f : ℕ → Bool) (n : ℕ) {r : ℕ} → r ≡ first f n → r < n → any_below n f ≡ true
told-some f n {r} e l = any_hit f n (first f n) (omega arith) (first_holds f n (omega arith))

pub told_none : (f : ℕ → Bool) (n : ℕ) {r : ℕ} → r ≡ first f n → n ≤ r → any_below n f ≡ false
told_none f n {r} e l = go (any_below n f) refl
  where
    go : (b : Bool) → any_below n f ≡ b → any_below n f ≡ false
    go true q = absurd (omega (arith, first-lt f n q))
    go false q = q
