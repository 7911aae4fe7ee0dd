-- Laws of answers by checks: a refusal is that of the first check that holds, and leaves lent memory as it was.
use Prim.Native.Nat.{ℕ, zero, suc, ◌≤◌, ◌<◌}
use mathlib.Core.Path.{◌≡◌, refl, sym, ap, ◌∙◌}
use mathlib.Core.Bool.{Bool, true, false}
use mathlib.Core.Logic.{◌↔◌}
use mathlib.Core.List.{List, [], ◌∷◌, ◌++◌}
use native.Mathlib.Omega.{arith}
use Rattle.refusal.specs.Choice.{pick}
use Rattle.refusal.specs.Table.{last, InTable, number_of, refusal_of}
use Rattle.std.specs.Prelude.{Ok, Err}
use Rattle.refusal.specs.declared.Refusal.{Refusal}
use Rattle.refusal.specs.Answers.{Answer, refuse}
use Rattle.refusal.proofs.Table.{number-in, number-refusal, refusal-number}
use Rattle.refusal.specs.Checks.{Check, first_number, unless, answered, left}
use Rattle.refusal.proofs.Picks.{all_in, AllIn, all_in_lem}

-- ---- numbers

-- the first number, or else the second
unfoldable pub or_else : ℕ → ℕ → ℕ
or_else zero b = b
or_else (suc a) b = suc a

pub or-zero : (a : ℕ) → or_else a 0 ≡ a
unfolding or_else
or-zero zero = refl
or-zero (suc a) = refl

pub or-all : (a b c : ℕ) → or_else a (or_else b c) ≡ or_else (or_else a b) c
unfolding or_else
or-all zero b c = refl
or-all (suc a) b c = refl

-- a check that holds has a number, so that those after it do not matter
pick-or : (b : Bool) (n m k : ℕ) → InTable n → pick b n (or_else m k) ≡ or_else (pick b n m) k
pick-or true zero m k t = absurd (omega (arith, t.0))
pick-or true (suc n) m k t = unfold or_else in refl
pick-or false n m k t = refl

pub first-both : (xs ys : List Check) → AllIn xs → first_number (xs ++ ys) ≡ or_else (first_number xs) (first_number ys)
unfolding first_number
first-both [] ys t = unfold or_else in refl
first-both (c ∷ cs) ys t = rw (first-both cs ys t.1) (pick-or c.holds c.number (first_number cs) (first_number ys) t.0)

pub unless-or : {A : Type 0} (r : ℕ → A) (n m : ℕ) (a : A) → unless r (or_else n m) a ≡ unless r n (unless r m a)
unfolding unless or_else
unless-or r zero m a = refl
unless-or r (suc n) m a = refl

-- checks one after the other
pub answered-both : {A : Type 0} (r : ℕ → A) (xs ys : List Check) (a : A) → AllIn xs → answered r (xs ++ ys) a ≡ answered r xs (answered r ys a)
answered-both r xs ys a t = rw (first-both xs ys t) (unless-or r (first_number xs) (first_number ys) a)

-- the number is 0 or in the table
pick-most : (b : Bool) (n m : ℕ) → n ≤ last → m ≤ last → pick b n m ≤ last
pick-most true n m l h = l
pick-most false n m l h = h

pub first-most : (checks : List Check) → AllIn checks → first_number checks ≤ last
unfolding first_number
first-most [] t = omega arith
first-most (c ∷ cs) t = pick-most c.holds c.number (first_number cs) t.0.1 (first-most cs t.1)

-- ---- answers

-- where the first number is known
unless-some : {A : Type 0} (r : ℕ → A) (k : ℕ) (a : A) → 0 < k → unless r k a ≡ r k
unfolding unless
unless-some r zero a h = absurd (omega arith)
unless-some r (suc k) a h = refl

pub by_number : {A : Type 0} (r : ℕ → A) (checks : List Check) (a : A) (k : ℕ) → first_number checks ≡ k → 0 < k → answered r checks a ≡ r k
by_number r checks a k e h = rw e (unless-some r k a h)

pub by_none : {A : Type 0} (r : ℕ → A) (checks : List Check) (a : A) → first_number checks ≡ 0 → answered r checks a ≡ a
unfolding unless
by_none r checks a e = rw e

-- the answer a is the refusal with the number k exactly when k is the number of the first check that holds; and k is in the table
pub record Refuses {A : Type 0} (a : A) (refused : ℕ → A) (checks : List Check) : Type 0 where
  pub decided : (k : ℕ) → (a ≡ refused k) ↔ ((first_number checks ≡ k) × InTable k)

unless-refuses : {A : Type 0} (r : ℕ → A) → ((j k : ℕ) → r j ≡ r k → j ≡ k) → (n : ℕ) (a : A) (checks : List Check)
    → n ≤ last → first_number checks ≡ n → ((k : ℕ) → a ≡ r k → ◌≡◌ {A = ℕ} 0 1) → Refuses (unless r n a) r checks
unfolding unless
unless-refuses r one zero a checks l e never =
    record { decided = λ k. (λ p. let z = never k p in absurd (omega arith), λ p. let z = p.0 in let i = p.1.0 in absurd (omega arith)) }
unless-refuses r one (suc n) a checks l e never =
    record { decided = λ k. (λ p. let z = one (suc n) k p in (e ∙ z, (omega arith, omega arith)), λ p. ap r (sym e ∙ p.0)) }

-- an answer that is else no refusal refuses by its checks
pub refusing : {A : Type 0} (r : ℕ → A) → ((j k : ℕ) → r j ≡ r k → j ≡ k) → (checks : List Check) (a : A)
    → AllIn checks → ((k : ℕ) → a ≡ r k → ◌≡◌ {A = ℕ} 0 1) → Refuses (answered r checks a) r checks
refusing r one checks a t never = unless-refuses r one (first_number checks) a checks (first-most checks t) refl never

pub refuses : {A : Type 0} (r : ℕ → A) → ((j k : ℕ) → r j ≡ r k → j ≡ k) → (checks : List Check) (a : A)
    → all_in checks ≡ true → ((k : ℕ) → a ≡ r k → ◌≡◌ {A = ℕ} 0 1) → Refuses (answered r checks a) r checks
refuses r one checks a t never = refusing r one checks a (all_in_lem checks t) never

-- and leaves lent memory as it was
unless-kept : {A B : Type 0} (r : ℕ → A) (n : ℕ) (a : A) (after before : B) (k : ℕ)
    → (a ≡ r k → ◌≡◌ {A = ℕ} 0 1) → unless r n a ≡ r k → unless (λ j. before) n after ≡ before
unfolding unless
unless-kept r zero a after before k never e = let z = never e in absurd (omega arith)
unless-kept r (suc n) a after before k never e = refl

pub keeping : {A B : Type 0} (r : ℕ → A) (checks : List Check) (a : A) (after before : B) (k : ℕ)
    → (a ≡ r k → ◌≡◌ {A = ℕ} 0 1) → answered r checks a ≡ r k → left checks after before ≡ before
keeping r checks = unless-kept r (first_number checks)

-- ---- answers of the kind `Answer`

-- the answer a is the refusal r exactly when r has the number of the first check that holds
pub record RefusesBy {A : Type 0} (a : Answer A) (checks : List Check) : Type 0 where
  pub decided : (r : Refusal) → (a ≡ Err r) ↔ (first_number checks ≡ number_of r)

unless-refuses_by : {A : Type 0} (n : ℕ) (v : A) (checks : List Check) → n ≤ last → first_number checks ≡ n → RefusesBy (unless refuse n (Ok v)) checks
unfolding unless
unless-refuses_by zero v checks l e =
    record { decided = λ r. (λ p. let z : ◌≡◌ {A = ℕ} 0 1 = cc in absurd (omega arith), λ p. let i = number-in r in absurd (omega (arith, i.0))) }
unless-refuses_by (suc n) v checks l e =
    record {
      decided = λ r. (
        λ p. let z : refusal_of (suc n) ≡ r = cc in e ∙ sym (number-refusal (suc n) (omega arith, l)) ∙ ap number_of z,
        λ p. ap Err (ap refusal_of (sym e ∙ p) ∙ refusal-number r),
      );
    }

-- an answer by checks, or else v, refuses by them
pub refuses_by : {A : Type 0} (checks : List Check) (v : A) → all_in checks ≡ true → RefusesBy (answered refuse checks (Ok v)) checks
refuses_by checks v t = unless-refuses_by (first_number checks) v checks (first-most checks (all_in_lem checks t)) refl

-- refused, such a call leaves lent memory as it was
pub keeping_by : {A B : Type 0} (checks : List Check) (v : A) (after before : B) (r : Refusal) → answered refuse checks (Ok v) ≡ Err r → left checks after before ≡ before
keeping_by checks v after before r e = keeping refuse checks (Ok v) after before (number_of r) (λ h. cc) (e ∙ ap Err (sym (refusal-number r)))
