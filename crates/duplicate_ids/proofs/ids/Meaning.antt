-- What the first repeated entry is, in words, and worked examples.
use Rattle.std.proofs.Common.{◌≡◌, ℕ, ◌-◌, ◌^◌, ◌<◌, ◌≤◌, true, eqb, List, [], ◌∷◌, get_or, refl, ⊎_elim, eqb-true}
use Rattle.endian.specs.Range.{sum_to, any_below, first}
use Rattle.endian.proofs.Ranges.{first-lt, first_holds, first-before}
use Rattle.duplicate_ids.specs.ids.Ids.{id_at, repeats, first_twice}
use Rattle.duplicate_ids.proofs.ids.Cases.{le-or-lt}
use Rattle.duplicate_ids.proofs.ids.Ids.{Met, repeats-miss}

met : (id : ℕ → ℕ) (i : ℕ) → repeats id i ≡ true → Met id i (id i)
unfolding repeats
met id i e =
    let l = first-lt (λ j. eqb (id j) (id i)) i e in
    record {
      entry = first (λ j. eqb (id j) (id i)) i;
      earlier = l;
      is = eqb-true _ _ (first_holds (λ j. eqb (id j) (id i)) i l);
    }

module _ (f : ℕ → ℕ) (n : ℕ) where
  -- an earlier entry has its id
  pub twice_met : first_twice f n < n → Met (id_at f) (first_twice f n) (id_at f (first_twice f n))
  unfolding first_twice
  twice_met h = met (id_at f) (first_twice f n) (first_holds (repeats (id_at f)) n h)

  -- no two entries before it have the same
  pub twice-before : (j k : ℕ) → j < k → k < first_twice f n → id_at f j ≡ id_at f k → ⊥
  unfolding first_twice
  twice-before j k l h = repeats-miss (id_at f) k j (first-before (repeats (id_at f)) n k h) l

  -- where two entries have the same id, it is no later than the second
  pub twice-least : (j k : ℕ) → j < k → k < n → id_at f j ≡ id_at f k → first_twice f n ≤ k
  twice-least j k l h e =
      ⊎_elim (λ (g : first_twice f n ≤ k). g) (λ (g : k < first_twice f n). absurd (twice-before j k l g e)) (le-or-lt (first_twice f n) k)

-- ---- examples

steps : List ℕ → ℕ → ℕ
steps l i = get_or l i 0

-- ids 5, 8, 8
stays_example : first_twice (steps (5 ∷ 3 ∷ 0 ∷ [])) 3 ≡ 2
unfolding first_twice repeats id_at steps sum_to any_below first
stays_example = refl

-- ids 1, 0, 1: the sum wraps
wraps_example : first_twice (steps (1 ∷ (2 ^ 64 - 1) ∷ 1 ∷ [])) 3 ≡ 2
unfolding first_twice repeats id_at steps sum_to any_below first
wraps_example = refl

-- ids 3, 7, 5
apart_example : first_twice (steps (3 ∷ 4 ∷ (2 ^ 64 - 2) ∷ [])) 3 ≡ 3
unfolding first_twice repeats id_at steps sum_to any_below first
apart_example = refl
