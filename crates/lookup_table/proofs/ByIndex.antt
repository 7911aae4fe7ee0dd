-- The verdict goes on from the second call of a lookup by ranges: where that names a range, it is that on the minishard index; where it says 12, nothing is
-- listed.
use Rattle.std.proofs.Common.{◌≡◌, ℕ, zero, suc, ◌+◌, ◌-◌, ◌≤◌, Bool, true, false, not, ◌&&◌, ◌||◌, eqb, List, sym, refl, ap, ◌∙◌, arith, ne_eqb, eqb-true}
use Rattle.refusal.specs.Choice.{pick}
use Rattle.refusal.specs.Checks.{first_number, unless}
use Rattle.sharding.specs.declared.Sharding.{Sharding}
use Rattle.sharding.specs.Specification.{is_mesh, allowed, no_such_shard}
use Rattle.sharding.specs.placement.Place.{shard_of, minishard_of}
use Rattle.shard.specs.index.Index.{entry_start_of, entry_end_of, entry_count}
use Rattle.shard.specs.index.Tests.{entry_place}
use Rattle.shard.proofs.index.Tests.{no-entries}
use Rattle.shard.specs.Faults.{bad_length}
use Rattle.shard.specs.File.{index_length_of, bad_file_length}
use Rattle.lookup.specs.declared.id_search.LookupAnswer.{LookupAnswer}
use Rattle.lookup.specs.declared.id_search.LookupAnswer.TheVariants.{Found, Refused, Faulty}
use Rattle.lookup.specs.row_judge.Rows.{row_tests}
use Rattle.lookup.specs.ranges.Steps.{call_checks, other_length, room, bad_bounds, bad_slices, index_range}
use Rattle.lookup.specs.ranges.Says.{bounds_say}
use Rattle.lookup.proofs.ranges.Answers.{index_picks}
use Rattle.lookup_table.specs.Fill.{count_in}
use Rattle.lookup_table.specs.Says.{Verdict, passes, refuses, faults, entries_judged, rows_judged, judged}

abbrev pub on_index : LookupAnswer → (ℕ → ℕ → Verdict) → Verdict
on_index (Found start n) next = next start n
on_index (Refused number) next = pick (eqb number 12) passes (refuses number)
on_index (Faulty number position) next = faults number position

-- nothing listed
module _ (spec : Sharding) (shard id len at : ℕ) (rows : List ℕ) where
  none-judged : entries_judged spec shard id len at 0 rows ≡ passes
  unfolding entries_judged unless
  none-judged = rw (no-entries at (row_tests spec shard (minishard_of spec id) (room spec len) rows 0))

  empty-judged : (s e : ℕ) → eqb s e ≡ true → entries_judged spec shard id len at (entry_count s e) rows ≡ passes
  empty-judged s e q =
      let h = eqb-true s e q in
      let z : entry_count s e ≡ 0 = omega arith in
      rw z none-judged

by_cases : (other seven eight empty wrong : Bool) (p at k : ℕ) (x : Verdict) (g : ℕ → ℕ → Verdict) → g at k ≡ pick wrong (refuses 31) x → (empty ≡ true → x ≡ passes)
    → pick (other || (not (seven || (eight || empty)) && wrong)) (refuses 31) (pick seven (faults 7 p) (pick eight (faults 8 p) x))
    ≡ on_index (pick other (Refused 31) (pick seven (Faulty 7 p) (pick eight (Faulty 8 p) (pick empty (Refused 12) (Found at k))))) g
by_cases true seven eight empty wrong p at k x g h n = refl
by_cases false true eight empty wrong p at k x g h n = refl
by_cases false false true empty wrong p at k x g h n = refl
by_cases false false false true wrong p at k x g h n = n refl
by_cases false false false false wrong p at k x g h n = sym h

pick-most : (a b c : Bool) → pick a 1 (pick b 5 (pick c 6 0)) ≤ 6
pick-most true b c = omega arith
pick-most false true c = omega arith
pick-most false false true = omega arith
pick-most false false false = omega arith

unless-on : (k : ℕ) (v : Verdict) (b : LookupAnswer) (g : ℕ → ℕ → Verdict) → k ≤ 6 → v ≡ on_index b g → unless refuses k v ≡ on_index (unless Refused k b) g
unfolding unless
unless-on zero v b g l h = h
unless-on (suc k) v b g l h = rw (ne_eqb (suc k) 12 (λ e. omega arith))

-- 12 is said of an empty minishard alone
unless_twelve : (k : ℕ) (b : LookupAnswer) → k ≤ 6 → unless Refused k b ≡ Refused 12 → b ≡ Refused 12
unfolding unless
unless_twelve zero b l e = e
unless_twelve (suc k) b l e = let z : suc k ≡ 12 = cc in absurd (omega arith)

pick_twelve : (other seven eight empty : Bool) (p at k : ℕ)
    → pick other (Refused 31) (pick seven (Faulty 7 p) (pick eight (Faulty 8 p) (pick empty (Refused 12) (Found at k)))) ≡ Refused 12 → empty ≡ true
pick_twelve true seven eight empty p at k e = let z : ◌≡◌ {A = ℕ} 31 12 = cc in absurd (omega arith)
pick_twelve false true eight empty p at k e = let z : ◌≡◌ {A = ℕ} 0 1 = cc in absurd (omega arith)
pick_twelve false false true empty p at k e = let z : ◌≡◌ {A = ℕ} 0 1 = cc in absurd (omega arith)
pick_twelve false false false true p at k e = refl
pick_twelve false false false false p at k e = let z : ◌≡◌ {A = ℕ} 0 1 = cc in absurd (omega arith)

module _ (spec : Sharding) (shard id len : ℕ) where
  pub call_most : first_number (call_checks spec shard id len) ≤ 6
  unfolding call_checks first_number
  call_most = pick-most (not (allowed spec) || is_mesh spec) (no_such_shard spec shard || not (eqb (shard_of spec id) shard)) (bad_file_length spec len)

  rows_is : (entry rows : List ℕ) → rows_judged spec shard id len (index_length_of spec + entry_start_of entry 0) (entry_end_of entry 0 - entry_start_of entry 0) rows
      ≡ pick (other_length rows (entry_end_of entry 0 - entry_start_of entry 0)) (refuses 31) (entries_judged spec shard id len (index_length_of spec + entry_start_of entry 0) (count_in entry) rows)
  unfolding rows_judged
  rows_is entry rows = refl

  pub by_index : (entry rows : List ℕ) → judged spec shard id len entry rows ≡ on_index (index_range spec shard id len entry) (λ at k. rows_judged spec shard id len at k rows)
  unfolding judged bad_slices bounds_say
  by_index entry rows =
      let s = entry_start_of entry 0 in
      let e = entry_end_of entry 0 in
      unless-on (first_number (call_checks spec shard id len)) _ _ (λ at k. rows_judged spec shard id len at k rows) call_most
      (by_cases (other_length entry 16) (bad_bounds (room spec len) s e) (bad_length s e) (eqb s e) (other_length rows (e - s)) (entry_place (minishard_of spec id)) (index_length_of spec + s) (e - s) _ _
      (rows_is entry rows) (empty-judged spec shard id len (index_length_of spec + s) rows s e))
      ∙ ap (λ (a : LookupAnswer). on_index a (λ at k. rows_judged spec shard id len at k rows)) (sym (index_picks spec shard id len entry))

  pub twelve_empty : (entry : List ℕ) → index_range spec shard id len entry ≡ Refused 12 → count_in entry ≡ 0
  unfolding bounds_say
  twelve_empty entry h =
      let s = entry_start_of entry 0 in
      let e = entry_end_of entry 0 in
      let q = unless_twelve (first_number (call_checks spec shard id len)) _ call_most (sym (index_picks spec shard id len entry) ∙ h) in
      let w = eqb-true s e (pick_twelve (other_length entry 16) (bad_bounds (room spec len) s e) (bad_length s e) (eqb s e) _ _ _ q) in
      omega arith
