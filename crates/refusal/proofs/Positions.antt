-- Laws of answers whose refusals may carry a position: number and position are those of the first check that holds.
use Prim.Native.Nat.{ℕ, zero, suc, ◌≤◌}
use mathlib.Core.Path.{◌≡◌, refl, sym, ap, ◌∙◌}
use mathlib.Core.Bool.{Bool, true, false}
use mathlib.Core.Logic.{◌↔◌}
use mathlib.Core.List.{List, [], ◌∷◌, ◌++◌}
use mathlib.Core.Option.{Option, none, some}
use native.Mathlib.Omega.{arith}
use Rattle.refusal.specs.Choice.{pick}
use Rattle.refusal.specs.Table.{last, InTable}
use Rattle.refusal.specs.Checks.{Check, first_number, first_position, unless, answered, left, refusal, answered_at}
use Rattle.refusal.proofs.Picks.{AllIn}
use Rattle.refusal.proofs.Refusing.{first-most}

-- ---- positions

-- no check carries one
abbrev pub Plain : List Check → Type 0
Plain [] = Unit {0}
Plain (c ∷ cs) = (c.position ≡ none) × Plain cs

pick_same : (b : Bool) (p q r : Option ℕ) → p ≡ r → q ≡ r → pick b p q ≡ r
pick_same true p q r e f = e
pick_same false p q r e f = f

pub no-position : (checks : List Check) → Plain checks → first_position checks ≡ none
unfolding first_position
no-position [] t = refl
no-position (c ∷ cs) t = pick_same c.holds c.position (first_position cs) none t.0 (no-position cs t.1)

-- ---- answers

-- the answer a is the refusal with the number k and the position p, or with none, exactly when these are the number and the position of the first
-- check that holds; and k is in the table
pub record RefusesAt {A : Type 0} (a : A) (refused : ℕ → A) (refused_at : ℕ → ℕ → A) (checks : List Check) : Type 0 where
  pub decided : (k : ℕ) (p : Option ℕ) → (a ≡ refusal refused refused_at k p) ↔ ((first_number checks ≡ k) × (first_position checks ≡ p) × InTable k)

module _ {A : Type 0} (r : ℕ → A) (at : ℕ → ℕ → A) where
  -- one check
  unless-at : (b : Bool) (n m : ℕ) (p q : Option ℕ) (a : A) → InTable n
      → unless (λ k. refusal r at k (pick b p q)) (pick b n m) a ≡ pick b (refusal r at n p) (unless (λ k. refusal r at k q) m a)
  unfolding unless
  unless-at false n m p q a t = refl
  unless-at true zero m p q a t = absurd (omega (arith, t.0))
  unless-at true (suc n) m p q a t = refl

  at-pick : (c : Check) (cs : List Check) (a : A) → InTable c.number
      → answered_at r at (c ∷ cs) a ≡ pick c.holds (refusal r at c.number c.position) (answered_at r at cs a)
  unfolding first_number first_position
  at-pick c cs a t = unless-at c.holds c.number (first_number cs) c.position (first_position cs) a t

  -- checks one after the other
  pub at_both : (xs ys : List Check) (a : A) → AllIn xs → answered_at r at (xs ++ ys) a ≡ answered_at r at xs (answered_at r at ys a)
  at_both [] ys a t = unfold first_number first_position unless in refl
  at_both (c ∷ cs) ys a t = at-pick c (cs ++ ys) a t.0 ∙ rw (at_both cs ys a t.1) (sym (at-pick c cs (answered_at r at ys a) t.0))

  -- checks without a position
  pub at_plain : (checks : List Check) (a : A) → Plain checks → answered_at r at checks a ≡ answered r checks a
  at_plain checks a t = rw (no-position checks t)

  -- where number and position are known
  pub at-placed : (checks : List Check) (k p : ℕ) (a : A) → first_number checks ≡ k → ((k ≡ 0 → ⊥) → first_position checks ≡ some p)
      → answered_at r at checks a ≡ unless (λ j. at j p) k a
  unfolding unless
  at-placed checks zero p a e h = rw e
  at-placed checks (suc k) p a e h = rw (e, h (λ z. omega arith))

  -- ---- an answer that is else no refusal refuses by its checks

  module _ (same : (j k : ℕ) → r j ≡ r k → j ≡ k) (same_at : (j k p q : ℕ) → at j p ≡ at k q → (j ≡ k) × (p ≡ q)) (apart : (j k p : ℕ) → r j ≡ at k p → ◌≡◌ {A = ℕ} 0 1) where
    one : (j k : ℕ) (p q : Option ℕ) → refusal r at j p ≡ refusal r at k q → (j ≡ k) × (p ≡ q)
    one j k none none e = (same j k e, refl)
    one j k none (some q) e = let z = apart j k q e in absurd (omega arith)
    one j k (some p) none e = let z = apart k j p (sym e) in absurd (omega arith)
    one j k (some p) (some q) e = let s = same_at j k p q e in (s.0, ap some s.1)

    module _ (checks : List Check) (a : A) (never : (k : ℕ) → a ≡ r k → ◌≡◌ {A = ℕ} 0 1) (never-at : (k p : ℕ) → a ≡ at k p → ◌≡◌ {A = ℕ} 0 1) where
      no-refusal : (k : ℕ) (p : Option ℕ) → a ≡ refusal r at k p → ◌≡◌ {A = ℕ} 0 1
      no-refusal k none e = never k e
      no-refusal k (some p) e = never-at k p e

      unless-refuses : (n : ℕ) (q : Option ℕ) → n ≤ last → first_number checks ≡ n → first_position checks ≡ q → RefusesAt (unless (λ k. refusal r at k q) n a) r at checks
      unfolding unless
      unless-refuses zero q l e f =
          record { decided = λ k p. (λ g. let z = no-refusal k p g in absurd (omega arith), λ g. let z = g.0 in let i = g.2.0 in absurd (omega arith)) }
      unless-refuses (suc n) q l e f =
          record {
            decided = λ k p. (
              λ g. let z = one (suc n) k q p g in let u = z.0 in (e ∙ z.0, f ∙ z.1, (omega arith, omega arith)),
              λ g. let u : suc n ≡ k = sym e ∙ g.0 in let v : q ≡ p = sym f ∙ g.1 in rw (u, v),
            );
          }

      pub refusing_at : AllIn checks → RefusesAt (answered_at r at checks a) r at checks
      refusing_at t = unless-refuses (first_number checks) (first_position checks) (first-most checks t) refl refl

      -- and leaves lent memory as it was
      unless-kept : {B : Type 0} (n : ℕ) (q : Option ℕ) (after before : B) (k : ℕ) (p : Option ℕ)
          → unless (λ j. refusal r at j q) n a ≡ refusal r at k p → unless (λ j. before) n after ≡ before
      unfolding unless
      unless-kept zero q after before k p e = let z = no-refusal k p e in absurd (omega arith)
      unless-kept (suc n) q after before k p e = refl

      pub keeping_at : {B : Type 0} (after before : B) (k : ℕ) (p : Option ℕ) → answered_at r at checks a ≡ refusal r at k p → left checks after before ≡ before
      keeping_at after before k p e = unless-kept (first_number checks) (first_position checks) after before k p e
