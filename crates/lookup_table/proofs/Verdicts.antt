-- The answers of the calls as what is told under one verdict.
use Rattle.std.proofs.Common.{◌≡◌, ℕ, zero, suc, ◌+◌, ◌*◌, Bool, true, false, ltb, List, [], ◌∷◌, ◌++◌, length, sym, refl, ap, ◌∙◌}
use mathlib.Core.Option.{Option, none, some}
use Rattle.refusal.specs.Choice.{pick}
use Rattle.refusal.specs.Checks.{Check, check, first_number, first_position, unless, refusal, answered_at, left}
use Rattle.refusal.specs.Buffer.{over}
use Rattle.sharding.specs.declared.Sharding.{Sharding}
use Rattle.sharding.specs.placement.Place.{minishard_of}
use Rattle.shard.specs.index.Index.{entry_start_of, entry_end_of}
use Rattle.shard.specs.index.Tests.{entry_place, first_of}
use Rattle.shard.specs.Faults.{bad_length}
use Rattle.shard.specs.Checks.{entry_checks}
use Rattle.shard.specs.File.{index_length_of}
use Rattle.lookup.specs.declared.id_search.LookupAnswer.TheVariants as lookup
use Rattle.lookup.specs.id_search.Search.{found_in}
use Rattle.lookup.specs.row_judge.Rows.{row_tests}
use Rattle.lookup.specs.ranges.Steps.{call_checks, room, bad_bounds, bad_slices, chunk_range}
use Rattle.lookup.specs.ranges.Says.{entries_say}
use Rattle.lookup.proofs.ranges.Answers.{plain-check, placed-check, no_checks, call_first, three_checks, chunk_picks}
use Rattle.refusal.specs.declared.CountAnswer.TheVariants.{Count, Refused, Faulty}
use Rattle.lookup_table.specs.Fill.{table_of, count_in, fill_checks, fill_answer, fill_left}
use Rattle.lookup_table.specs.Says.{Verdict, passes, refuses, faults, told, entries_judged, judged, fill_says, fill_holds}

-- ---- what is told goes into choices

module _ {A : Type 0} (r : ℕ → A) (f : ℕ → ℕ → A) (a : A) where
  told-unless : (k : ℕ) (v : Verdict) → told r f (unless refuses k v) a ≡ unless r k (told r f v a)
  unfolding unless
  told-unless zero v = refl
  told-unless (suc k) v = refl

  told-pick : (b : Bool) (v w : Verdict) → told r f (pick b v w) a ≡ pick b (told r f v a) (told r f w a)
  told-pick true v w = refl
  told-pick false v w = refl

  told-faults : (k q : ℕ) → told r f (unless (λ j. faults j q) k passes) a ≡ unless (λ j. f j q) k a
  unfolding unless
  told-faults zero q = refl
  told-faults (suc k) q = refl

  pub told-judged : (spec : Sharding) (shard id len : ℕ) (entry rows : List ℕ) → told r f (judged spec shard id len entry rows) a
      ≡ unless r (first_number (call_checks spec shard id len))
      (pick (bad_slices (room spec len) entry rows) (r 31)
      (pick (bad_bounds (room spec len) (entry_start_of entry 0) (entry_end_of entry 0)) (f 7 (entry_place (minishard_of spec id)))
      (pick (bad_length (entry_start_of entry 0) (entry_end_of entry 0)) (f 8 (entry_place (minishard_of spec id)))
      (unless (λ k. f k (first_of (index_length_of spec + entry_start_of entry 0) (count_in entry) (row_tests spec shard (minishard_of spec id) (room spec len) rows (count_in entry))).position)
      (first_of (index_length_of spec + entry_start_of entry 0) (count_in entry) (row_tests spec shard (minishard_of spec id) (room spec len) rows (count_in entry))).number a))))
  unfolding judged entries_judged
  told-judged spec shard id len entry rows =
      let s = entry_start_of entry 0 in
      let e = entry_end_of entry 0 in
      told-unless (first_number (call_checks spec shard id len)) _
      ∙ ap (unless r (first_number (call_checks spec shard id len)))
      (told-pick (bad_slices (room spec len) entry rows) _ _
      ∙ ap (pick (bad_slices (room spec len) entry rows) (r 31))
      (told-pick (bad_bounds (room spec len) s e) _ _
      ∙ ap (pick (bad_bounds (room spec len) s e) (f 7 (entry_place (minishard_of spec id))))
      (told-pick (bad_length s e) _ _
      ∙ ap (pick (bad_length s e) (f 8 (entry_place (minishard_of spec id)))) (told-faults _ _))))

-- ---- the checks, one by one

module _ {A : Type 0} (r : ℕ → A) (at : ℕ → ℕ → A) where
  entries-told : (spec : Sharding) (shard m len base n : ℕ) (rows : List ℕ) (b : Bool) (a : A)
      → answered_at r at (entry_checks base n (row_tests spec shard m (room spec len) rows n) ++ (check 13 b ∷ [])) a
      ≡ unless (λ k. at k (first_of base n (row_tests spec shard m (room spec len) rows n)).position) (first_of base n (row_tests spec shard m (room spec len) rows n)).number (pick b (r 13) a)
  unfolding entry_checks row_tests first_of
  entries-told spec shard m len base n rows b a =
      three_checks r at _ _ _ _ _ _ (check 13 b ∷ []) a ∙ ap (unless _ _) (plain-check r at 12 b [] a ∙ ap (pick b (r 13)) (no_checks r at a))

  pub checks_told : (spec : Sharding) (shard id len : ℕ) (entry rows out : List ℕ) (a : A)
      → answered_at r at (fill_checks spec shard id len entry rows out) a ≡ told r at (judged spec shard id len entry rows) (pick (ltb (length out) (3 * count_in entry)) (r 13) a)
  unfolding fill_checks
  checks_told spec shard id len entry rows out a =
      let s = entry_start_of entry 0 in
      let e = entry_end_of entry 0 in
      let p = entry_place (minishard_of spec id) in
      call_first spec shard id len r at _ a
      ∙ ap (unless r (first_number (call_checks spec shard id len)))
      (plain-check r at 30 (bad_slices (room spec len) entry rows) _ a
      ∙ ap (pick (bad_slices (room spec len) entry rows) (r 31))
      (placed-check r at 6 (bad_bounds (room spec len) s e) p _ a
      ∙ ap (pick (bad_bounds (room spec len) s e) (at 7 p))
      (placed-check r at 7 (bad_length s e) p _ a
      ∙ ap (pick (bad_length s e) (at 8 p)) (entries-told spec shard (minishard_of spec id) len (index_length_of spec + s) (count_in entry) rows (ltb (length out) (3 * count_in entry)) a))))
      ∙ sym (told-judged r at (pick (ltb (length out) (3 * count_in entry)) (r 13) a) spec shard id len entry rows)

-- what is left, as an answer
left_at : {A : Type 0} (cs : List Check) (a b : A) → left cs a b ≡ answered_at (λ k. b) (λ k p. b) cs a
left_at {A} cs a b = go (first_number cs) (first_position cs)
  where
    go : (k : ℕ) (o : Option ℕ) → unless (λ (j : ℕ). b) k a ≡ unless (λ (j : ℕ). refusal {A = A} (λ i. b) (λ i p. b) j o) k a
    go zero o = unfold unless in refl
    go (suc k) none = unfold unless in refl
    go (suc k) (some p) = unfold unless in refl

-- ---- the answers

module _ (spec : Sharding) (shard id len : ℕ) (entry rows out : List ℕ) where
  pub answer_says : fill_answer spec shard id len entry rows out ≡ fill_says (judged spec shard id len entry rows) (count_in entry) out
  unfolding fill_answer fill_says
  answer_says = checks_told Refused Faulty spec shard id len entry rows out (Count (count_in entry))

  pub left-holds : fill_left spec shard id len entry rows out ≡ fill_holds (judged spec shard id len entry rows) (index_length_of spec) rows (count_in entry) out
  unfolding fill_left fill_holds
  left-holds =
      left_at (fill_checks spec shard id len entry rows out) (over (table_of (index_length_of spec) rows (count_in entry)) out) out
      ∙ checks_told (λ k. out) (λ k p. out) spec shard id len entry rows out (over (table_of (index_length_of spec) rows (count_in entry)) out)

-- the third call of a lookup by ranges
pub chunk-told : (spec : Sharding) (shard id len : ℕ) (entry rows : List ℕ)
    → chunk_range spec shard id len entry rows ≡ told lookup.Refused lookup.Faulty (judged spec shard id len entry rows) (found_in (index_length_of spec) rows 0 (count_in entry) id)
unfolding entries_say
chunk-told spec shard id len entry rows =
    chunk_picks spec shard id len entry rows
    ∙ sym (told-judged lookup.Refused lookup.Faulty (found_in (index_length_of spec) rows 0 (count_in entry) id) spec shard id len entry rows)
