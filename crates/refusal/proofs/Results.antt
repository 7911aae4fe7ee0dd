-- Laws of results: what an answer by checks tells is decided by them.
use Prim.Native.Nat.{ℕ, zero, suc, ◌≤◌}
use mathlib.Core.Path.{◌≡◌, refl, sym, ◌∙◌}
use mathlib.Core.Bool.{Bool, true, false, ◌&&◌}
use mathlib.Core.List.{List, [], ◌∷◌, ◌++◌}
use mathlib.Core.Option.{Option, none, some}
use mathlib.Core.Logic.{inl, inr}
use native.Mathlib.Omega.{arith}
use Rattle.refusal.specs.Choice.{pick}
use Rattle.refusal.specs.Table.{last, InTable, number_of, refusal_of}
use Rattle.refusal.specs.Checks.{Check, first_number, first_position, unless, answered, answered_at, refusal}
use Rattle.refusal.specs.Result.{Result, success, refused, DecidedBy}
use Rattle.refusal.proofs.Tests.{both}
use Rattle.refusal.proofs.Table.{number-refusal}
use Rattle.refusal.proofs.Picks.{all_in, AllIn, all_in_lem}
use Rattle.refusal.proofs.Positions.{Plain, no-position}
use Rattle.refusal.proofs.Refusing.{first-most}

-- no check carries a position: a test that computes where the checks are given
abbrev is_none : Option ℕ → Bool
is_none none = true
is_none (some p) = false

abbrev pub all_plain : List Check → Bool
all_plain [] = true
all_plain (c ∷ cs) = is_none c.position && all_plain cs

is-none : (p : Option ℕ) → is_none p ≡ true → p ≡ none
is-none none e = refl
is-none (some p) e = cc

all_plain_lem : (checks : List Check) → all_plain checks ≡ true → Plain checks
all_plain_lem [] t = tt
all_plain_lem (c ∷ cs) t = let q = both (is_none c.position) (all_plain cs) t in (is-none c.position q.0, all_plain_lem cs q.1)

-- where no check holds there is no position
none_first : (checks : List Check) → AllIn checks → first_number checks ≡ 0 → first_position checks ≡ none
unfolding first_number first_position
none_first [] t e = refl
none_first (c ∷ cs) t e = go c.holds e (λ z. none_first cs t.1 z)
  where
    go : (b : Bool) → pick b c.number (first_number cs) ≡ 0 → (first_number cs ≡ 0 → first_position cs ≡ none)
        → pick b c.position (first_position cs) ≡ none
    go true e h = absurd (omega (arith, t.0.0))
    go false e h = h e

-- what a refusal of the table tells
pub told : {B : Type 0} (k : ℕ) → InTable k → refused {B = B} (number_of (refusal_of k)) ≡ refused k
told k t = rw (number-refusal k t)

-- g gives the refusals of these checks; a is a success that gives v
module _ {A B : Type 0} (f : A → Result B) (checks : List Check) (g : ℕ → A) (a : A) (v : B) where
  by_first : ((k : ℕ) → InTable k → ((f (g k)).number ≡ k) × ((f (g k)).position ≡ first_position checks) × ((f (g k)).values ≡ none)) → f a ≡ success v → AllIn checks
      → (n : ℕ) → n ≤ last → first_number checks ≡ n → DecidedBy checks (f (unless g n a))
  unfolding unless
  by_first tells gives t zero l e =
      rw gives (record {
        number = sym e;
        position = sym (none_first checks t e);
        given = inl (refl, λ z. let y : ◌≡◌ {A = ℕ} 0 1 = cc in omega arith);
      })
  by_first tells gives t (suc n) l e =
      let r = tells (suc n) (omega arith, l) in
      let i : InTable (f (g (suc n))).number = rw r.0 (omega arith, l) in
      record { number = r.0 ∙ sym e; position = r.1; given = inr (i, r.2) }

module _ {A B : Type 0} (f : A → Result B) (r : ℕ → A) (plain : (k : ℕ) → InTable k → f (r k) ≡ refused k) where
  -- refusals that come alone
  pub decided_in : (checks : List Check) (a : A) {v : B} → f a ≡ success v → AllIn checks → Plain checks → DecidedBy checks (f (answered r checks a))
  decided_in checks a {v} gives t p =
      by_first f checks r a v (λ k i. let z = plain k i in (rw z refl, rw z (sym (no-position checks p)), rw z refl)) gives t (first_number checks) (first-most checks t) refl

  pub decided : (checks : List Check) (a : A) {v : B} → f a ≡ success v → all_in checks ≡ true → all_plain checks ≡ true → DecidedBy checks (f (answered r checks a))
  decided checks a gives t p = decided_in checks a gives (all_in_lem checks t) (all_plain_lem checks p)

  -- checks that come alone before others
  pub decided_after : (xs ys : List Check) (a : A) → AllIn xs → Plain xs → DecidedBy ys (f a) → DecidedBy (xs ++ ys) (f (answered r xs a))
  unfolding first_number first_position
  decided_after xs ys a t p h = go xs t p
    where
      go : (xs : List Check) → AllIn xs → Plain xs → DecidedBy (xs ++ ys) (f (answered r xs a))
      go [] t p = unfold unless in record { number = h.number; position = h.position; given = h.given }
      go (c ∷ cs) t p = one c.holds c.number c.position t.0 p.0 (go cs t.1 p.1)
        where
          one : (b : Bool) (n : ℕ) (q : Option ℕ) → InTable n → q ≡ none → DecidedBy (cs ++ ys) (f (answered r cs a))
              → DecidedBy (record { number = n; holds = b; position = q } ∷ (cs ++ ys)) (f (unless r (pick b n (first_number cs)) a))
          one false n q i e d = record { number = d.number; position = d.position; given = d.given }
          one true zero q i e d = absurd (omega (arith, i.0))
          one true (suc n) q i e d = unfold unless in (rw (plain (suc n) i) (record { number = refl; position = sym e; given = inr (i, refl) }))

  -- refusals that may carry a position
  pub decided_at : (at : ℕ → ℕ → A) → ((k p : ℕ) → ((f (at k p)).number ≡ k) × ((f (at k p)).position ≡ some p) × ((f (at k p)).values ≡ none))
      → (checks : List Check) (a : A) {v : B} → f a ≡ success v → AllIn checks → DecidedBy checks (f (answered_at r at checks a))
  decided_at at tells checks a {v} gives t =
      by_first f checks (λ k. refusal r at k (first_position checks)) a v (λ k i. each k i (first_position checks)) gives t (first_number checks) (first-most checks t) refl
    where
      each : (k : ℕ) → InTable k → (q : Option ℕ) → ((f (refusal r at k q)).number ≡ k) × ((f (refusal r at k q)).position ≡ q) × ((f (refusal r at k q)).values ≡ none)
      each k i none = let z = plain k i in (rw z refl, rw z refl, rw z refl)
      each k i (some p) = tells k p
