-- The answers of the three calls as choices, one for each check.
use Rattle.std.proofs.Common.{◌≡◌, ℕ, suc, ◌+◌, ◌-◌, Bool, true, false, eqb, List, [], ◌∷◌, ◌++◌, refl, ap, ◌∙◌}
use Rattle.refusal.specs.Choice.{pick}
use Rattle.refusal.specs.Checks.{Check, check, check_at, first_number, first_position, unless, answered_at}
use Rattle.refusal.proofs.Picks.{AllIn, all_in_lem}
use Rattle.refusal.proofs.Positions.{at_both, at_plain}
use Rattle.sharding.specs.declared.Sharding.{Sharding}
use Rattle.sharding.specs.placement.Place.{minishard_of}
use Rattle.shard.specs.index.Index.{entry_start_of, entry_end_of, entry_count}
use Rattle.shard.specs.index.Tests.{fault, entry_place, first_of}
use Rattle.shard.specs.Faults.{bad_length}
use Rattle.shard.specs.Checks.{entry_checks}
use Rattle.shard.specs.File.{index_length_of}
use Rattle.lookup.specs.declared.id_search.LookupAnswer.TheVariants.{Found, Refused, Faulty}
use Rattle.lookup.specs.id_search.Search.{not_listed, chunk_of, found_in}
use Rattle.lookup.specs.row_judge.Rows.{row_tests}
use Rattle.lookup.specs.ranges.Steps.{call_checks, other_length, room, bad_bounds, index_range, bad_slices, chunk_checks, chunk_range}
use Rattle.lookup.specs.ranges.Says.{bounds_say, entry_says, entries_say}

-- ---- one check of a list

module _ {A : Type 0} (r : ℕ → A) (at : ℕ → ℕ → A) (k : ℕ) where
  pub plain-check : (b : Bool) (cs : List Check) (a : A) → answered_at r at (check (suc k) b ∷ cs) a ≡ pick b (r (suc k)) (answered_at r at cs a)
  unfolding first_number first_position unless
  plain-check true cs a = refl
  plain-check false cs a = refl

  pub placed-check : (b : Bool) (p : ℕ) (cs : List Check) (a : A) → answered_at r at (check_at (suc k) b p ∷ cs) a ≡ pick b (at (suc k) p) (answered_at r at cs a)
  unfolding first_number first_position unless
  placed-check true p cs a = refl
  placed-check false p cs a = refl

pub no_checks : {A : Type 0} (r : ℕ → A) (at : ℕ → ℕ → A) (a : A) → answered_at r at [] a ≡ a
unfolding first_number first_position unless
no_checks r at a = refl

-- ---- what every call tests first

module _ (spec : Sharding) (shard id len : ℕ) where
  -- 'number or 0' of 1, 5 and 6
  abbrev pub called : ℕ
  called = first_number (call_checks spec shard id len)

  module _ {A : Type 0} (r : ℕ → A) (at : ℕ → ℕ → A) where
    pub call_first : (cs : List Check) (a : A) → answered_at r at (call_checks spec shard id len ++ cs) a ≡ unless r called (answered_at r at cs a)
    call_first cs a = at_both r at (call_checks spec shard id len) cs a call_in ∙ call_plain (answered_at r at cs a)
      where
        call_in : AllIn (call_checks spec shard id len)
        call_in = unfold call_checks in all_in_lem (call_checks spec shard id len) refl

        call_plain : (b : A) → answered_at r at (call_checks spec shard id len) b ≡ unless r (first_number (call_checks spec shard id len)) b
        call_plain b = unfold call_checks in at_plain r at (call_checks spec shard id len) b (refl, (refl, (refl, tt)))

-- ---- the second call

pub index_picks : (spec : Sharding) (shard id len : ℕ) (entry : List ℕ) → index_range spec shard id len entry
    ≡ unless Refused (first_number (call_checks spec shard id len)) (pick (other_length entry 16) (Refused 31) (entry_says spec id len entry))
unfolding index_range bounds_say
index_picks spec shard id len entry =
    let s = entry_start_of entry 0 in
    let e = entry_end_of entry 0 in
    let p = entry_place (minishard_of spec id) in
    let found = Found (index_length_of spec + s) (e - s) in
    call_first spec shard id len Refused Faulty _ found
    ∙ ap (unless Refused (first_number (call_checks spec shard id len)))
    (plain-check Refused Faulty 30 (other_length entry 16) _ found
    ∙ ap (pick (other_length entry 16) (Refused 31))
    (placed-check Refused Faulty 6 (bad_bounds (room spec len) s e) p _ found
    ∙ ap (pick (bad_bounds (room spec len) s e) (Faulty 7 p))
    (placed-check Refused Faulty 7 (bad_length s e) p _ found
    ∙ ap (pick (bad_length s e) (Faulty 8 p)) (plain-check Refused Faulty 11 (eqb s e) [] found ∙ ap (pick (eqb s e) (Refused 12)) (no_checks Refused Faulty found)))))

-- ---- the third call

-- 9, 10 and 11 by the first fault
pub three_checks : {A : Type 0} (r : ℕ → A) (at : ℕ → ℕ → A) (a b c : Bool) (p q s : ℕ) (cs : List Check) (x : A)
    → answered_at r at (check_at 9 a p ∷ check_at 10 b q ∷ check_at 11 c s ∷ cs) x
    ≡ unless (λ k. at k (pick a (fault 9 p) (pick b (fault 10 q) (pick c (fault 11 s) (fault 0 0)))).position)
    (pick a (fault 9 p) (pick b (fault 10 q) (pick c (fault 11 s) (fault 0 0)))).number (answered_at r at cs x)
unfolding first_number first_position unless
three_checks r at true b c p q s cs x = refl
three_checks r at false true c p q s cs x = refl
three_checks r at false false true p q s cs x = refl
three_checks r at false false false p q s cs x = refl

module _ (spec : Sharding) (shard id len : ℕ) where
  entries_picks : (at n : ℕ) (rows : List ℕ)
      → answered_at Refused Faulty (entry_checks at n (row_tests spec shard (minishard_of spec id) (room spec len) rows n) ++ (not_listed rows 0 n id ∷ [])) (chunk_of (index_length_of spec) rows 0 n id)
      ≡ entries_say spec shard id len at n rows
  unfolding entry_checks row_tests entries_say first_of found_in
  entries_picks at n rows =
      three_checks Refused Faulty _ _ _ _ _ _ (not_listed rows 0 n id ∷ []) (chunk_of (index_length_of spec) rows 0 n id)
      ∙ ap (unless _ _) (at_plain Refused Faulty (not_listed rows 0 n id ∷ []) (chunk_of (index_length_of spec) rows 0 n id) (refl, tt))

  pub chunk_picks : (entry rows : List ℕ) → chunk_range spec shard id len entry rows
      ≡ unless Refused (first_number (call_checks spec shard id len))
      (pick (bad_slices (room spec len) entry rows) (Refused 31)
      (pick (bad_bounds (room spec len) (entry_start_of entry 0) (entry_end_of entry 0)) (Faulty 7 (entry_place (minishard_of spec id)))
      (pick (bad_length (entry_start_of entry 0) (entry_end_of entry 0)) (Faulty 8 (entry_place (minishard_of spec id)))
      (entries_say spec shard id len (index_length_of spec + entry_start_of entry 0) (entry_count (entry_start_of entry 0) (entry_end_of entry 0)) rows))))
  unfolding chunk_range chunk_checks
  chunk_picks entry rows =
      let s = entry_start_of entry 0 in
      let e = entry_end_of entry 0 in
      let p = entry_place (minishard_of spec id) in
      let found = chunk_of (index_length_of spec) rows 0 (entry_count s e) id in
      call_first spec shard id len Refused Faulty _ found
      ∙ ap (unless Refused (first_number (call_checks spec shard id len)))
      (plain-check Refused Faulty 30 (bad_slices (room spec len) entry rows) _ found
      ∙ ap (pick (bad_slices (room spec len) entry rows) (Refused 31))
      (placed-check Refused Faulty 6 (bad_bounds (room spec len) s e) p _ found
      ∙ ap (pick (bad_bounds (room spec len) s e) (Faulty 7 p))
      (placed-check Refused Faulty 7 (bad_length s e) p _ found
      ∙ ap (pick (bad_length s e) (Faulty 8 p)) (entries_picks (index_length_of spec + s) (entry_count s e) rows))))
