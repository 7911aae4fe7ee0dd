-- Laws of a call that only judges: it answers `unless refuse k (Ok tt)`, that is Ok where the number k is 0, and otherwise the refusal k.
use Rattle.std.proofs.Common.{ℕ, zero, suc, ◌≡◌, ◌≤◌, ◌<◌, refl, sym, ap, ◌∙◌, arith, List, ◌++◌, Result, Ok, Err, IsErr, IsErrAnd}
use Rattle.std.proofs.lemmas.Result.{err_from_is_err_and}
use Rattle.refusal.specs.declared.Refusal.{Refusal}
use Rattle.refusal.specs.Table.{last, number_of, refusal_of}
use Rattle.refusal.specs.Answers.{Answer, refuse, judged}
use Rattle.refusal.specs.Checks.{Check, first_number, unless, answered, left}
use Rattle.refusal.proofs.Table.{number-refusal, refusal-number}
use Rattle.refusal.proofs.Picks.{AllIn}
use Rattle.refusal.proofs.Refusing.{answered-both}

-- ---- it passed

pub passed-none : (k : ℕ) → Ok tt ≡ judged k → k ≡ 0
unfolding unless
passed-none zero e = refl
passed-none (suc k) e = cc

-- then an answer by the same number is the one that is given
pub passed-on : (k : ℕ) → Ok tt ≡ judged k → {A : Type 0} (r : ℕ → A) (a : A) → unless r k a ≡ a
unfolding unless
passed-on k e r a = let z : k ≡ 0 = passed-none k e in rw z

-- ---- it refused with r

pub passed-some : (k : ℕ) {r : Refusal} → Err r ≡ judged k → 0 < k
unfolding unless
passed-some zero e = let z : ◌≡◌ {A = ℕ} 0 1 = cc in absurd (omega arith)
passed-some (suc k) e = omega arith

pub passed-refusal : (k : ℕ) {r : Refusal} → Err r ≡ judged k → r ≡ refusal_of k
unfolding unless
passed-refusal zero e = cc
passed-refusal (suc k) e = cc

pub passed-number : (k : ℕ) {r : Refusal} → Err r ≡ judged k → k ≤ last → number_of r ≡ k
passed-number k e h = ap number_of (passed-refusal k e) ∙ number-refusal k (passed-some k e, h)

-- an answer by the same number, whatever g makes of a refusal
pub passed-by : (k : ℕ) {r : Refusal} → Err r ≡ judged k → {A : Type 0} (g : Refusal → A) (a : A) → g r ≡ unless (λ j. g (refusal_of j)) k a
unfolding unless
passed-by zero e g a = cc
passed-by (suc k) e g a = ap g (passed-refusal (suc k) e)

module _ (k : ℕ) {r : Refusal} (e : Err r ≡ judged k) where
  pub passed-refused : {A : Type 0} (a : Answer A) → Err r ≡ unless refuse k a
  passed-refused a = passed-by k e Err a

  -- lent memory stays as it was
  pub passed-kept : {A : Type 0} (after before : A) → before ≡ unless (λ j. before) k after
  passed-kept after before = passed-by k e (λ s. before) after

-- ---- the number is that of the first checks of a call

module _ (xs : List Check) (t : AllIn xs) where
  pub first-passed : {A : Type 0} (g : ℕ → A) (ys : List Check) (a : A) → Ok tt ≡ judged (first_number xs)
      → answered g ys a ≡ answered g (xs ++ ys) a
  unfolding unless
  first-passed g ys a e = let z : first_number xs ≡ 0 = passed-none (first_number xs) e in sym (answered-both g xs ys a t ∙ rw z)

  module _ {r : Refusal} (e : Err r ≡ judged (first_number xs)) where
    pub first-by : {A : Type 0} (g : Refusal → A) (ys : List Check) (a : A) → g r ≡ answered (λ j. g (refusal_of j)) (xs ++ ys) a
    first-by g ys a = passed-by (first_number xs) e g (answered (λ j. g (refusal_of j)) ys a) ∙ sym (answered-both (λ j. g (refusal_of j)) xs ys a t)

    pub first-refused : {A : Type 0} (ys : List Check) (a : Answer A) → Err r ≡ answered refuse (xs ++ ys) a
    first-refused ys a = first-by Err ys a

    pub first-kept : {A : Type 0} (ys : List Check) (after before : A) → before ≡ left (xs ++ ys) after before
    first-kept ys after before = first-by (λ s. before) ys after

-- ---- a `?` hands the refusal on: with k, what its exit says of what the caller returns

pub handed : {A E : Type 0} {r : Result A E} {k : E} → IsErr r × IsErrAnd r (λ y. y ≡ k) → r ≡ Err k
handed {r} h = let p = err_from_is_err_and r h.1 in p.1 ∙ ap Err p.2

-- ---- how such a call answers

pub pass : (k : ℕ) → k ≡ 0 → Ok tt ≡ judged k
unfolding unless
pass k e = rw e

pub pass-not : (k : ℕ) (r : Refusal) → k ≡ number_of r → 0 < k → Err r ≡ judged k
unfolding unless
pass-not zero r e h = absurd (omega arith)
pass-not (suc k) r e h = ap Err (sym (refusal-number r) ∙ ap refusal_of (sym e))
