-- Laws of tests, and of ranges of positions.
use Prim.Native.Nat.{ℕ, ◌+◌, ◌≤◌, ◌<◌}
use mathlib.Core.Path.{◌≡◌, refl, sym}
use mathlib.Core.Bool.{Bool, true, false, ◌||◌, and-false, or_comm}
use mathlib.Core.Logic.{◌⊎◌, inl, inr, ⊎_elim}
use native.Mathlib.Omega.{arith}
use lib.Dec.{leb, ltb}
use borrow.Author.Tests.{ltb-true, ltb-false, leb-true, lt-ltb, le-ltb, le-leb, lt-leb}
use Rattle.refusal.proofs.Tests.{both}
use Rattle.bitmap.specs.Positions.{within}

-- two tests say the same where each holds with the other
pub same_test : (a b : Bool) → (a ≡ true → b ≡ true) → (b ≡ true → a ≡ true) → a ≡ b
same_test true b f g = sym (f refl)
same_test false true f g = g refl
same_test false false f g = refl

pub or-first : (a b : Bool) → a ≡ true → a || b ≡ true
or-first a b e = rw e

pub or-second : (a b : Bool) → b ≡ true → a || b ≡ true
or-second true b e = refl
or-second false b e = e

pub or-either : (a b : Bool) → a || b ≡ true → (a ≡ true) ⊎ (b ≡ true)
or-either true b e = inl refl
or-either false b e = inr e

pub or_swap : (a b c : Bool) → (a || b) || c ≡ (a || c) || b
or_swap true b c = refl
or_swap false b c = or_comm b c

module _ (a b p : ℕ) where
  pub within-yes : a ≤ p → p < b → within a b p ≡ true
  unfolding within
  within-yes h k = rw (le-leb a p h, lt-ltb p b k)

  pub within-before : p < a → within a b p ≡ false
  unfolding within
  within-before h = rw (lt-leb a p h)

  pub within-past : b ≤ p → within a b p ≡ false
  unfolding within
  within-past h = rw (le-ltb p b h) (and-false (leb a p))

  pub within-from : within a b p ≡ true → a ≤ p
  unfolding within
  within-from e = leb-true a p (both (leb a p) (ltb p b) e).0

  pub within-to : within a b p ≡ true → p < b
  unfolding within
  within-to e = ltb-true p b (both (leb a p) (ltb p b) e).1

pub within_shift : (c a b p : ℕ) → within (c + a) (c + b) (c + p) ≡ within a b p
within_shift c a b p =
    same_test _ _
    (λ e. within-yes a b p (omega (arith, within-from _ _ _ e)) (omega (arith, within-to _ _ _ e)))
    (λ e. within-yes _ _ _ (omega (arith, within-from _ _ _ e)) (omega (arith, within-to _ _ _ e)))

pub within-empty : (a b p : ℕ) → b ≤ a → within a b p ≡ false
within-empty a b p h = split (ltb p a) refl
  where
    split : (t : Bool) → ltb p a ≡ t → within a b p ≡ false
    split true q = within-before a b p (ltb-true p a q)
    split false q = let l = ltb-false p a q in within-past a b p (omega arith)

pub within_join : (a b c p : ℕ) → a ≤ b → b ≤ c → within a b p || within b c p ≡ within a c p
within_join a b c p h k = same_test _ _ (λ e. ⊎_elim (λ x. left x) (λ x. right x) (or-either _ _ e)) (λ e. split (ltb p b) refl e)
  where
    left : within a b p ≡ true → within a c p ≡ true
    left e = within-yes a c p (within-from a b p e) (omega (arith, within-to a b p e))

    right : within b c p ≡ true → within a c p ≡ true
    right e = within-yes a c p (omega (arith, within-from b c p e)) (within-to b c p e)

    split : (t : Bool) → ltb p b ≡ t → within a c p ≡ true → within a b p || within b c p ≡ true
    split true q e = or-first (within a b p) (within b c p) (within-yes a b p (within-from a c p e) (ltb-true p b q))
    split false q e = or-second (within a b p) (within b c p) (within-yes b c p (ltb-false p b q) (within-to a c p e))
