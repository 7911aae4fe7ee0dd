-- Tests of positions: how many positions they share, and how many all of them miss.
use Prim.Native.Nat.{ℕ, zero, suc, ◌+◌, ◌-◌, ◌≤◌, ◌<◌, min}
use mathlib.Core.Path.{◌≡◌, refl, ap}
use mathlib.Core.Bool.{Bool, true, false, ◌&&◌, ◌||◌}
use mathlib.Core.Logic.{◌⊎◌, ⊎_elim}
use native.Mathlib.Omega.{arith}
use native.Mathlib.Nat.{not-suc-le-zero, eq-or-lt_of_le, le_of_suc-le-suc}
use lib.Dec.{leb, ltb}
use borrow.Author.Tests.{leb-true, leb-false, ltb-true, ltb-false}
use Rattle.refusal.specs.Choice.{pick}
use Rattle.endian.specs.Range.{sum_to, any_below, first}
use Rattle.endian.proofs.Ranges.{any_none, any_hit, first-lt, first_holds}
use Rattle.duplicate_ids.proofs.ids.Cases.{le-or-lt}
use Rattle.bitmap.specs.Positions.{within, miss, misses}
use Rattle.bitmap.proofs.Within.{within-yes, within-before, within-past}
use Rattle.bitmap.proofs.Counts.{misses-all}

-- ---- sums

sum-all : (f : ℕ → ℕ) (n : ℕ) → ((i : ℕ) → i < n → f i ≡ 0) → sum_to f n ≡ 0
unfolding sum_to
sum-all f zero h = refl
sum-all f (suc n) h = omega (arith, sum-all f n (λ i l. h i (omega arith)), h n (omega arith))

sum-each : (f : ℕ → ℕ) (n : ℕ) → sum_to f n ≡ 0 → (i : ℕ) → i < n → f i ≡ 0
unfolding sum_to
sum-each f zero z i l = absurd (not-suc-le-zero l)
sum-each f (suc n) z i l =
    ⊎_elim (λ (e : i ≡ n). omega (arith, ap f e)) (λ (k : i < n). sum-each f n (omega arith) i k) (eq-or-lt_of_le (le_of_suc-le-suc l))

-- ---- two tests

-- how many of the positions below n they share
unfoldable both : (ℕ → Bool) → (ℕ → Bool) → ℕ → ℕ
both f g p = pick (f p && g p) 1 0

unfoldable shared : (ℕ → Bool) → (ℕ → Bool) → ℕ → ℕ
shared f g n = sum_to (both f g) n

-- counted twice where they are shared
misses-or : (f g : ℕ → Bool) (n : ℕ) → misses f n + misses g n + shared f g n ≡ misses (λ p. f p || g p) n + n
unfolding sum_to miss both shared
misses-or f g zero = refl
misses-or f g (suc n) = omega (arith, misses-or f g n, one (f n) (g n))
  where
    one : (a b : Bool) → pick a 0 1 + pick b 0 1 + pick (a && b) 1 0 ≡ pick (a || b) 0 1 + 1
    one true true = refl
    one true false = refl
    one false true = refl
    one false false = refl

module _ (f g : ℕ → Bool) (n : ℕ) where
  none-shared : ((p : ℕ) → p < n → f p ≡ true → g p ≡ true → ⊥) → shared f g n ≡ 0
  unfolding both shared
  none-shared h = sum-all (both f g) n (λ p l. go (f p) refl (g p) refl (h p l))
    where
      go : {p : ℕ} (a : Bool) → f p ≡ a → (b : Bool) → g p ≡ b → (f p ≡ true → g p ≡ true → ⊥) → both f g p ≡ 0
      go true e true u k = absurd (k e u)
      go true e false u k = rw (e, u)
      go false e b u k = rw e

  shared-none : shared f g n ≡ 0 → (p : ℕ) → p < n → f p ≡ true → g p ≡ true → ⊥
  unfolding both shared
  shared-none z p l e u = let h = sum-each (both f g) n z p l in omega (arith, rw (e, u) at h)

-- ---- several tests, f p i that number i holds of position p

-- how many positions each shares with those before it, and something more for each
pub shared_to : (ℕ → ℕ → Bool) → (ℕ → ℕ) → ℕ → ℕ → ℕ
shared_to f more n k = sum_to (λ i. shared (λ p. any_below i (f p)) (λ p. f p i) n + more i) k

-- Where test i holds of size i positions, those that no test holds of are as many as are left, and the shared ones.
pub misses-any : (f : ℕ → ℕ → Bool) (size more : ℕ → ℕ) (n k : ℕ) → ((i : ℕ) → i < k → misses (λ p. f p i) n + size i ≡ n + more i)
    → misses (λ p. any_below k (f p)) n + sum_to size k ≡ n + shared_to f more n k
unfolding shared_to sum_to any_below
misses-any f size more n zero h = omega (arith, misses-all (λ p. any_below 0 (f p)) n (λ p l. any_none (f p)))
misses-any f size more n (suc k) h =
    let a = misses-any f size more n k (λ i l. h i (omega arith)) in
    let b = h k (omega arith) in
    let e = misses-or (λ p. any_below k (f p)) (λ p. f p k) n in
    omega arith

module _ (f : ℕ → ℕ → Bool) (more : ℕ → ℕ) (n k : ℕ) where
  -- nothing is shared where no position has two, and nothing more is there
  pub apart-shared : ((p i j : ℕ) → p < n → i < j → j < k → f p i ≡ true → f p j ≡ true → ⊥) → ((i : ℕ) → i < k → more i ≡ 0) → shared_to f more n k ≡ 0
  unfolding shared_to
  apart-shared h z =
      sum-all (λ i. shared (λ p. any_below i (f p)) (λ p. f p i) n + more i) k
      (λ i l.
      let e = none-shared (λ p. any_below i (f p)) (λ p. f p i) n λ p m u v.
      h p (first (f p) i) i m (first-lt (f p) i u) l (first_holds (f p) i (first-lt (f p) i u)) v in
      omega (arith, z i l))

  -- and only there
  module _ (z : shared_to f more n k ≡ 0) where
    each_none : (i : ℕ) → i < k → shared (λ p. any_below i (f p)) (λ p. f p i) n + more i ≡ 0
    unfolding shared_to
    each_none i l = sum-each (λ i. shared (λ p. any_below i (f p)) (λ p. f p i) n + more i) k z i l

    pub shared-more : (i : ℕ) → i < k → more i ≡ 0
    shared-more i l = omega (arith, each_none i l)

    in_turn : (p i j : ℕ) → p < n → i < j → j < k → f p i ≡ true → f p j ≡ true → ⊥
    in_turn p i j m o l u v =
        shared-none (λ p. any_below j (f p)) (λ p. f p j) n (omega (arith, each_none j l)) p m (any_hit (f p) j i o u) v

    pub shared-apart : (p i j : ℕ) → p < n → i < k → j < k → f p i ≡ true → f p j ≡ true → (i ≡ j → ⊥) → ⊥
    shared-apart p i j m l o u v ne =
        ⊎_elim
        (λ (a : i ≤ j). ⊎_elim (λ (e : i ≡ j). ne e) (λ (b : i < j). in_turn p i j m b o u v) (eq-or-lt_of_le a))
        (λ (a : j < i). in_turn p j i m a l v u)
        (le-or-lt i j)

-- ---- the positions of a range

below : (a b n : ℕ) → a ≤ b → misses (within a b) n + min b n ≡ n + min a n
unfolding sum_to miss
below a b zero h = omega arith
below a b (suc n) h = go (below a b n h) (leb a n) refl (ltb n b) refl
  where
    go : misses (within a b) n + min b n ≡ n + min a n → (s : Bool) → leb a n ≡ s → (t : Bool) → ltb n b ≡ t
        → misses (within a b) n + pick (within a b n) 0 1 + min b (suc n) ≡ suc n + min a (suc n)
    go ih true e true u = let x = leb-true a n e in let y = ltb-true n b u in rw (within-yes a b n x y) (omega arith)
    go ih true e false u = let x = leb-true a n e in let y = ltb-false n b u in rw (within-past a b n y) (omega arith)
    go ih false e t u = let x = leb-false a n e in rw (within-before a b n x) (omega arith)

-- it has as many as lie between its ends, where it ends by n or is empty
pub misses-within : (a b n : ℕ) → a ≤ b → (a ≡ b) ⊎ (b ≤ n) → misses (within a b) n + (b - a) ≡ n
misses-within a b n h w =
    ⊎_elim (λ (e : a ≡ b). omega (arith, below a b n h, ap (λ (k : ℕ). min k n) e)) (λ (k : b ≤ n). omega (arith, below a b n h)) w
