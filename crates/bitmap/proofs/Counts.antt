-- Laws of counts of positions that a test misses.
use Prim.Native.Nat.{ℕ, zero, suc, ◌+◌, ◌≤◌, ◌<◌}
use mathlib.Core.Path.{◌≡◌, refl}
use mathlib.Core.Bool.{Bool, true, false}
use mathlib.Core.Logic.{⊎_elim}
use native.Mathlib.Omega.{arith}
use native.Mathlib.Nat.{add-zero, add-suc, eq-or-lt_of_le, le_of_suc-le-suc, not-suc-le-zero}
use Rattle.refusal.specs.Choice.{pick}
use Rattle.endian.specs.Range.{sum_to}
use Rattle.bitmap.specs.Positions.{after, miss, misses}

-- ---- sums

pub sum_head : (f : ℕ → ℕ) (n : ℕ) → sum_to f (suc n) ≡ f 0 + sum_to (λ i. f (suc i)) n
unfolding sum_to
sum_head f zero = omega arith
sum_head f (suc n) = omega (arith, sum_head f n)

pub sum_same : (f g : ℕ → ℕ) (n : ℕ) → ((i : ℕ) → i < n → f i ≡ g i) → sum_to f n ≡ sum_to g n
unfolding sum_to
sum_same f g zero e = refl
sum_same f g (suc n) e = omega (arith, sum_same f g n (λ i l. e i (omega arith)), e n (omega arith))

sum_split : (f : ℕ → ℕ) (a n : ℕ) → sum_to f (a + n) ≡ sum_to f a + sum_to (λ i. f (a + i)) n
unfolding sum_to
sum_split f a zero = simp add-zero
sum_split f a (suc n) = rw add-suc (let e = sum_split f a n in omega arith)

-- ---- one position

module _ (f : ℕ → Bool) (p : ℕ) where
  miss-none : f p ≡ true → miss f p ≡ 0
  unfolding miss
  miss-none e = rw e

  miss-one : f p ≡ false → miss f p ≡ 1
  unfolding miss
  miss-one e = rw e

  miss-same : (g : ℕ → Bool) (q : ℕ) → f p ≡ g q → miss f p ≡ miss g q
  unfolding miss
  miss-same g q e = rw e

  miss-le : miss f p ≤ 1
  unfolding miss
  miss-le = go (f p)
    where
      go : (b : Bool) → pick b 0 1 ≤ 1
      go true = omega arith
      go false = omega arith

-- ---- those below n

pub misses-le : (f : ℕ → Bool) (n : ℕ) → misses f n ≤ n
unfolding sum_to
misses-le f zero = omega arith
misses-le f (suc n) = let e = misses-le f n in omega (arith, miss-le f n)

pub misses-none : (f : ℕ → Bool) (n : ℕ) → ((i : ℕ) → i < n → f i ≡ true) → misses f n ≡ 0
unfolding sum_to
misses-none f zero e = refl
misses-none f (suc n) e = omega (arith, misses-none f n (λ i l. e i (omega arith)), miss-none f n (e n (omega arith)))

pub misses-all : (f : ℕ → Bool) (n : ℕ) → ((i : ℕ) → i < n → f i ≡ false) → misses f n ≡ n
unfolding sum_to
misses-all f zero e = refl
misses-all f (suc n) e = omega (arith, misses-all f n (λ i l. e i (omega arith)), miss-one f n (e n (omega arith)))

pub misses-same : (f g : ℕ → Bool) (n : ℕ) → ((i : ℕ) → i < n → f i ≡ g i) → misses f n ≡ misses g n
misses-same f g n e = sum_same (miss f) (miss g) n (λ i l. miss-same f i g i (e i l))

-- none is missed: the test holds of each
pub misses-zero : (f : ℕ → Bool) (n : ℕ) → misses f n ≡ 0 → (i : ℕ) → i < n → f i ≡ true
unfolding sum_to
misses-zero f zero e i l = absurd (not-suc-le-zero l)
misses-zero f (suc n) e i l =
    ⊎_elim (λ q. last i q (f i) refl) (λ m. misses-zero f n (omega arith) i m) (eq-or-lt_of_le (le_of_suc-le-suc l))
  where
    last : (i : ℕ) → i ≡ n → (b : Bool) → f i ≡ b → f i ≡ true
    last i q true t = t
    last i q false t = let z : f n ≡ false = rw q at t in absurd (omega (arith, miss-one f n z))

-- those below a, and n more, of which another test says the same
pub misses_split : (f g : ℕ → Bool) (a n : ℕ) → ((i : ℕ) → i < n → f (a + i) ≡ g i) → misses f (a + n) ≡ misses f a + misses g n
misses_split f g a n e =
    let s = sum_split (miss f) a n in
    let t = sum_same (λ i. miss f (a + i)) (miss g) n (λ i l. miss-same f (a + i) g i (e i l)) in
    omega arith

pub after-at : (a : ℕ) (f : ℕ → Bool) (i : ℕ) → f (a + i) ≡ after a f i
unfolding after
after-at a f i = refl

pub misses-after : (f : ℕ → Bool) (a n : ℕ) → misses f (a + n) ≡ misses f a + misses (after a f) n
misses-after f a n = misses_split f (after a f) a n (λ i l. after-at a f i)
