-- "But for 23" a call on a pair answers "as for the joined file", and leaves lent memory as that does.
use Prim.Native.Nat.{ℕ, zero, suc}
use mathlib.Core.Path.{◌≡◌, refl, sym, ◌∙◌}
use mathlib.Core.Bool.{Bool, true, false, not}
use mathlib.Core.List.{List, [], ◌∷◌}
use mathlib.Core.Option.{Option, none}
use native.Mathlib.Omega.{arith}
use lib.ListN.{length}
use borrow.Author.Tests.{eq-eqb}
use Rattle.refusal.specs.Checks.{Check, check, first_number, first_position, unless, answered, left, refusal}
use Rattle.refusal.proofs.Positions.{RefusesAt}
use Rattle.refusal.proofs.Picks.{AllIn}
use Rattle.refusal.proofs.Refusing.{Refuses, answered-both}
use Rattle.sharding.specs.declared.Sharding.{Sharding}
use Rattle.sharding.specs.Specification.{allowed}
use Rattle.shard.specs.File.{index_length_of}
use Rattle.split_shard.specs.seam.Pair.{bad_seam, then_seam, pair_checks, pair_answer}

seam_good : (spec : Sharding) (index : List ℕ) → length index ≡ index_length_of spec → bad_seam spec index ≡ false
unfolding bad_seam
seam_good spec index e = rw (eq-eqb (length index) (index_length_of spec) e)

-- where the joined file's answer, or what it leaves, is one by the checks before 23
pub joined_by : {A : Type 0} (r : ℕ → A) (before : List Check) → AllIn before → (spec : Sharding) (index : List ℕ) → length index ≡ index_length_of spec
    → {joined : A} (inside : A) → joined ≡ answered r before inside → answered r (then_seam before spec index) joined ≡ joined
unfolding first_number unless
joined_by r before named spec index e {joined} inside j =
    answered-both r before (check 23 (bad_seam spec index) ∷ []) joined named ∙ rw (seam_good spec index e, j) (again (first_number before))
  where
    again : (n : ℕ) → unless r n (unless r n inside) ≡ unless r n inside
    again zero = refl
    again (suc n) = refl

module _ {A : Type 0} (r : ℕ → A) where
  by_two : (a b c : Bool) (cs : List Check) (x : A) → c ≡ false → Refuses x r (check 1 a ∷ check 5 b ∷ cs) → unless r (first_number (check 1 a ∷ check 5 b ∷ check 23 c ∷ [])) x ≡ x
  unfolding first_number unless
  by_two true b c cs x e h = sym ((h.decided 1).1 (refl, (omega arith, omega arith)))
  by_two false true c cs x e h = sym ((h.decided 5).1 (refl, (omega arith, omega arith)))
  by_two false false c cs x e h = rw e

  pub as_joined : (spec : Sharding) (five : Bool) (index : List ℕ) {cs : List Check} {x : A} → length index ≡ index_length_of spec
      → Refuses x r (check 1 (not (allowed spec)) ∷ check 5 five ∷ cs) → pair_answer r spec five index x ≡ x
  unfolding pair_checks
  as_joined spec five index {cs} {x} e h = by_two (not (allowed spec)) five (bad_seam spec index) cs x (seam_good spec index e) h

  -- ---- where refusals may carry a position

  module _ (at : ℕ → ℕ → A) where
    by_two-at : (a b c : Bool) (cs : List Check) (x : A) → c ≡ false → RefusesAt x r at (check 1 a ∷ check 5 b ∷ cs)
        → unless r (first_number (check 1 a ∷ check 5 b ∷ check 23 c ∷ [])) x ≡ x
    unfolding first_number first_position unless
    by_two-at true b c cs x e h = sym ((h.decided 1 none).1 (refl, refl, (omega arith, omega arith)))
    by_two-at false true c cs x e h = sym ((h.decided 5 none).1 (refl, refl, (omega arith, omega arith)))
    by_two-at false false c cs x e h = rw e

    left-two : (a b c : Bool) (cs : List Check) (x : A) → c ≡ false → RefusesAt x r at (check 1 a ∷ check 5 b ∷ cs) → {B : Type 0} (before after : B)
        → ((k : ℕ) (p : Option ℕ) → x ≡ refusal r at k p → after ≡ before) → unless (λ k. before) (first_number (check 1 a ∷ check 5 b ∷ check 23 c ∷ [])) after ≡ after
    unfolding first_number first_position unless
    left-two true b c cs x e h before after kept = sym (kept 1 none ((h.decided 1 none).1 (refl, refl, (omega arith, omega arith))))
    left-two false true c cs x e h before after kept = sym (kept 5 none ((h.decided 5 none).1 (refl, refl, (omega arith, omega arith))))
    left-two false false c cs x e h before after kept = rw e

    pub as_joined_at : (spec : Sharding) (five : Bool) (index : List ℕ) {cs : List Check} {x : A} → length index ≡ index_length_of spec
        → RefusesAt x r at (check 1 (not (allowed spec)) ∷ check 5 five ∷ cs) → pair_answer r spec five index x ≡ x
    unfolding pair_checks
    as_joined_at spec five index {cs} {x} e h = by_two-at (not (allowed spec)) five (bad_seam spec index) cs x (seam_good spec index e) h

    -- what is left, where a refusal of the joined file leaves lent memory as it was
    pub left_as_joined : (spec : Sharding) (five : Bool) (index : List ℕ) {cs : List Check} {x : A} {B : Type 0} (before after : B) → length index ≡ index_length_of spec
        → RefusesAt x r at (check 1 (not (allowed spec)) ∷ check 5 five ∷ cs) → ((k : ℕ) (p : Option ℕ) → x ≡ refusal r at k p → after ≡ before)
        → pair_answer (λ k. before) spec five index after ≡ after
    unfolding pair_checks
    left_as_joined spec five index {cs} {x} before after e h kept = left-two (not (allowed spec)) five (bad_seam spec index) cs x (seam_good spec index e) h before after kept

-- ---- what is left

-- where the joined file's call leaves lent memory as it was whenever it answers b, so does this one
pub pair-kept : {A B : Type 0} (r : ℕ → A) (checks : List Check) {x b : A} (before : B) {after : B} → (x ≡ b → after ≡ before)
    → answered r checks x ≡ b → left checks after before ≡ before
pair-kept r checks {x} {b} before {after} h e = go (first_number checks) e
  where
    go : (n : ℕ) → unless r n x ≡ b → unless (λ k. before) n after ≡ before
    go zero e = unfold unless in h e
    go (suc n) e = unfold unless in refl
