-- Answers by checks that begin with 15, 16 and 17, as the code finds them: test by test, and by what the judge answered.
use Prim.Native.Nat.{ℕ, zero, suc}
use mathlib.Core.Path.{◌≡◌, refl, sym, ◌∙◌}
use mathlib.Core.Bool.{Bool, true, false}
use mathlib.Core.List.{List, [], ◌∷◌, ◌++◌}
use native.Mathlib.Omega.{arith}
use Rattle.refusal.specs.Checks.{Check, check, first_number, unless, answered}
use Rattle.refusal.specs.Table.{refusal_of}
use Rattle.refusal.specs.declared.Refusal.{Refusal}
use Rattle.std.specs.Prelude.{Ok, Err}
use Rattle.refusal.proofs.Picks.{AllIn, all_in_lem}
use Rattle.refusal.specs.Answers.{judged}
use Rattle.refusal.proofs.Passed.{passed-none, passed-by, first-by}
use Rattle.refusal.proofs.Refusing.{or_else, first-both, answered-both}
use Rattle.mesh_manifest.specs.sound.Verdict.{manifest_checks, manifest_verdict}

-- ---- a list of checks, from its head

module _ {A : Type 0} (r : ℕ → A) (a : A) where
  unless-yes : (n : ℕ) → n ≡ 0 → a ≡ unless r n a
  unfolding unless
  unless-yes zero h = refl
  unless-yes (suc n) h = absurd (omega arith)

  pub fails : (k : ℕ) (b : Bool) (cs : List Check) → b ≡ true → r (suc k) ≡ answered r (check (suc k) b ∷ cs) a
  unfolding first_number unless
  fails k b cs h = rw h

  pub passes : (k : ℕ) (b : Bool) (cs : List Check) → b ≡ false → answered r cs a ≡ answered r (check k b ∷ cs) a
  unfolding first_number
  passes k b cs h = rw h

  pub passed : a ≡ answered r [] a
  unfolding first_number unless
  passed = refl

-- an answer that is no refusal: no check holds
pub unrefused : {A : Type 0} (r : ℕ → A) (checks : List Check) (a : A) {b : A} → ((k : ℕ) → b ≡ r k → ◌≡◌ {A = ℕ} 0 1) → answered r checks a ≡ b
    → (first_number checks ≡ 0) × (b ≡ a)
unfolding unless
unrefused r checks a {b} never e = go (first_number checks) refl e
  where
    go : (n : ℕ) → first_number checks ≡ n → unless r n a ≡ b → (first_number checks ≡ 0) × (b ≡ a)
    go zero q f = (q, sym f)
    go (suc n) q f = let z = never (suc n) (sym f) in absurd (omega arith)

-- and then none of the list's first or second part, none at its head or past it
or-none : (a b : ℕ) → or_else a b ≡ 0 → (a ≡ 0) × (b ≡ 0)
unfolding or_else
or-none zero b e = (refl, e)
or-none (suc a) b e = absurd (omega arith)

pub none_both : (xs ys : List Check) → AllIn xs → first_number (xs ++ ys) ≡ 0 → (first_number xs ≡ 0) × (first_number ys ≡ 0)
none_both xs ys t e = or-none (first_number xs) (first_number ys) (sym (first-both xs ys t) ∙ e)

pub none-head : (k : ℕ) (b : Bool) (cs : List Check) → first_number (check (suc k) b ∷ cs) ≡ 0 → (b ≡ false) × (first_number cs ≡ 0)
unfolding first_number
none-head k true cs e = absurd (omega arith)
none-head k false cs e = (refl, e)

pub in_table : (s : List ℕ) → AllIn (manifest_checks s)
unfolding manifest_checks
in_table s = all_in_lem (manifest_checks s) refl

-- 15, 16 and 17, then the checks `more`
module _ (s : List ℕ) where
  -- where the judge refused with k: what g makes of that
  module _ {k : Refusal} (e : Err k ≡ judged (manifest_verdict s)) {A : Type 0} (g : Refusal → A) where
    pub refused : (a : A) → g k ≡ answered (λ j. g (refusal_of j)) (manifest_checks s) a
    unfolding manifest_verdict
    refused a = passed-by (manifest_verdict s) e g a

    pub refused-first : (more : List Check) (a : A) → g k ≡ answered (λ j. g (refusal_of j)) (manifest_checks s ++ more) a
    unfolding manifest_verdict
    refused-first more a = first-by (manifest_checks s) (in_table s) e g more a

  -- where it did not
  module _ (z : manifest_verdict s ≡ 0) {A : Type 0} (r : ℕ → A) where
    pub given : (a : A) → a ≡ answered r (manifest_checks s) a
    unfolding manifest_verdict
    given a = unless-yes r a (manifest_verdict s) z

    pub given-first : (more : List Check) (a : A) → answered r more a ≡ answered r (manifest_checks s ++ more) a
    given-first more a = given (answered r more a) ∙ sym (answered-both r (manifest_checks s) more a (in_table s))

pub told-sound : (s : List ℕ) → Ok tt ≡ judged (manifest_verdict s) → manifest_verdict s ≡ 0
told-sound s e = passed-none (manifest_verdict s) e

-- where none of the checks holds, the judge gives 0
pub none-sound : (s : List ℕ) (more : List Check) → first_number (manifest_checks s ++ more) ≡ 0 → (manifest_verdict s ≡ 0) × (first_number more ≡ 0)
unfolding manifest_verdict
none-sound s more e = none_both (manifest_checks s) more (in_table s) e
