-- The numbers of a range that pass a test.
use Prim.Native.Nat.{ℕ, zero, suc, ◌+◌, ◌-◌, ◌≤◌, ◌<◌}
use mathlib.Core.Path.{◌≡◌, refl, ap, ◌∙◌}
use mathlib.Core.Bool.{Bool, true, false}
use mathlib.Core.List.{List, [], ◌++◌}
use native.Mathlib.Omega.{arith}
use native.Mathlib.Nat.{zero-add, add-zero}
use lib.ListN.{length, length-append}
use Rattle.cover.specs.overlap.Cover.{keep, passing}

keep_append : (b : Bool) (k : ℕ) (xs ys : List ℕ) → keep b k (xs ++ ys) ≡ keep b k xs ++ ys
unfolding keep
keep_append true k xs ys = refl
keep_append false k xs ys = refl

-- a range in two
pub passing_split : (test : ℕ → Bool) (k m n : ℕ) → passing test k (m + n) ≡ passing test k m ++ passing test (k + m) n
unfolding passing
passing_split test k zero n = rw (zero-add, add-zero)
passing_split test k (suc m) n =
    let e : suc m + n ≡ suc (m + n) = omega arith in
    let f : k + suc m ≡ suc k + m = omega arith in
    rw (e, f) (ap (keep (test k) k) (passing_split test (suc k) m n) ∙ keep_append (test k) k _ _)

-- tests that agree in the range
pub passing-same : (p q : ℕ → Bool) (k n : ℕ) → ((i : ℕ) → k ≤ i → i < k + n → p i ≡ q i) → passing p k n ≡ passing q k n
unfolding passing
passing-same p q k zero h = refl
passing-same p q k (suc n) h =
    rw (h k (omega arith) (omega arith), passing-same p q (suc k) n (λ i l m. h i (omega arith) (omega arith)))

-- a test that nothing in the range passes
pub passing-none : (p : ℕ → Bool) (k n : ℕ) → ((i : ℕ) → p i ≡ false) → passing p k n ≡ []
unfolding passing keep
passing-none p k zero h = refl
passing-none p k (suc n) h = rw (h k) (passing-none p (suc k) n h)

-- no number of the range passes
pub passing_nothing : (test : ℕ → Bool) (k n : ℕ) → ((i : ℕ) → k ≤ i → i < k + n → test i ≡ false) → passing test k n ≡ []
passing_nothing test k n h = passing-same test (λ i. false) k n h ∙ passing-none (λ i. false) k n (λ i. refl)

-- some number of the range passes
first-kept : (test : ℕ → Bool) (k n : ℕ) → test k ≡ true → 0 < length (passing test k (suc n))
unfolding passing keep
first-kept test k n t = let e : length (passing test k (suc n)) ≡ suc (length (passing test (suc k) n)) = rw t in omega arith

later-kept : (test : ℕ → Bool) (k m n : ℕ) → test (k + m) ≡ true → 0 < length (passing test k (m + suc n))
later-kept test k m n t =
    let e = ap length (passing_split test k m (suc n)) ∙ length-append (passing test k m) (passing test (k + m) (suc n)) in
    omega (arith, first-kept test (k + m) n t)

pub passing-some : (test : ℕ → Bool) (k n i : ℕ) → k ≤ i → i < k + n → test i ≡ true → 0 < length (passing test k n)
passing-some test k n i l h t =
    let e : (i - k) + suc (n - suc (i - k)) ≡ n = omega arith in
    let f : k + (i - k) ≡ i = omega arith in
    let g = later-kept test k (i - k) (n - suc (i - k)) (ap test f ∙ t) in
    rw e at g
