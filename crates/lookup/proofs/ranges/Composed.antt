-- The third answer goes on from the second: where that names a range, it is what the minishard index says.
use Rattle.std.proofs.Common.{◌≡◌, ℕ, zero, suc, ◌+◌, ◌-◌, Bool, true, false, not, ◌&&◌, ◌||◌, eqb, List, sym, refl, ap, ◌∙◌, not-suc-le-zero, arith, eqb-true}
use Rattle.refusal.specs.Choice.{pick}
use Rattle.refusal.specs.Checks.{first_number, unless}
use Rattle.sharding.specs.declared.Sharding.{Sharding}
use Rattle.sharding.specs.placement.Place.{minishard_of}
use Rattle.shard.specs.index.Index.{entry_start_of, entry_end_of, entry_count}
use Rattle.shard.specs.index.Tests.{entry_place}
use Rattle.shard.proofs.index.Tests.{no-entries}
use Rattle.shard.specs.Faults.{bad_length}
use Rattle.shard.specs.File.{index_length_of}
use Rattle.lookup.specs.declared.id_search.LookupAnswer.{LookupAnswer}
use Rattle.lookup.specs.declared.id_search.LookupAnswer.TheVariants.{Found, Refused, Faulty}
use Rattle.lookup.proofs.id_search.Seek.{found_none}
use Rattle.lookup.specs.row_judge.Rows.{row_tests}
use Rattle.lookup.specs.ranges.Steps.{call_checks, other_length, room, bad_bounds, index_range, bad_slices, chunk_range}
use Rattle.lookup.specs.ranges.Says.{bounds_say, entry_says, entries_say, rows_say}
use Rattle.lookup.proofs.ranges.Answers.{index_picks, chunk_picks}

-- an answer that names a range goes on
abbrev pub on_range : LookupAnswer → (ℕ → ℕ → LookupAnswer) → LookupAnswer
on_range (Found start n) next = next start n
on_range (Refused number) next = Refused number
on_range (Faulty number position) next = Faulty number position

-- an empty minishard lists nothing
module _ (spec : Sharding) (shard id len at : ℕ) (rows : List ℕ) where
  none_say : entries_say spec shard id len at 0 rows ≡ Refused 12
  unfolding entries_say unless
  none_say =
      rw (no-entries at (row_tests spec shard (minishard_of spec id) (room spec len) rows 0))
      (found_none (index_length_of spec) rows 0 0 id (λ i l k. absurd (not-suc-le-zero l)))

  empty_says : (s e : ℕ) → eqb s e ≡ true → entries_say spec shard id len at (entry_count s e) rows ≡ Refused 12
  empty_says s e q =
      let h = eqb-true s e q in
      let z : entry_count s e ≡ 0 = omega arith in
      rw z none_say

by_cases : (other seven eight empty wrong : Bool) (p at k : ℕ) (x : LookupAnswer) (g : ℕ → ℕ → LookupAnswer) → g at k ≡ pick wrong (Refused 31) x → (empty ≡ true → x ≡ Refused 12)
    → pick (other || (not (seven || (eight || empty)) && wrong)) (Refused 31) (pick seven (Faulty 7 p) (pick eight (Faulty 8 p) x))
    ≡ on_range (pick other (Refused 31) (pick seven (Faulty 7 p) (pick eight (Faulty 8 p) (pick empty (Refused 12) (Found at k))))) g
by_cases true seven eight empty wrong p at k x g h n = refl
by_cases false true eight empty wrong p at k x g h n = refl
by_cases false false true empty wrong p at k x g h n = refl
by_cases false false false true wrong p at k x g h n = n refl
by_cases false false false false wrong p at k x g h n = sym h

module _ (spec : Sharding) (shard id len : ℕ) (entry rows : List ℕ) where
  -- once 1, 5 and 6 do not hold
  inner_composed : pick (bad_slices (room spec len) entry rows) (Refused 31)
      (pick (bad_bounds (room spec len) (entry_start_of entry 0) (entry_end_of entry 0)) (Faulty 7 (entry_place (minishard_of spec id)))
      (pick (bad_length (entry_start_of entry 0) (entry_end_of entry 0)) (Faulty 8 (entry_place (minishard_of spec id)))
      (entries_say spec shard id len (index_length_of spec + entry_start_of entry 0) (entry_count (entry_start_of entry 0) (entry_end_of entry 0)) rows)))
      ≡ on_range (pick (other_length entry 16) (Refused 31) (entry_says spec id len entry)) (λ at k. rows_say spec shard id len at k rows)
  unfolding bad_slices bounds_say
  inner_composed =
      let s = entry_start_of entry 0 in
      let e = entry_end_of entry 0 in
      by_cases (other_length entry 16) (bad_bounds (room spec len) s e) (bad_length s e) (eqb s e) (other_length rows (e - s)) (entry_place (minishard_of spec id)) (index_length_of spec + s) (e - s) _ _
      (unfold rows_say in refl) (empty_says spec shard id len (index_length_of spec + s) rows s e)

  unless-on : (k : ℕ) (a b : LookupAnswer) (g : ℕ → ℕ → LookupAnswer) → a ≡ on_range b g → unless Refused k a ≡ on_range (unless Refused k b) g
  unfolding unless
  unless-on zero a b g h = h
  unless-on (suc k) a b g h = refl

  pub composed : chunk_range spec shard id len entry rows ≡ on_range (index_range spec shard id len entry) (λ at k. rows_say spec shard id len at k rows)
  composed =
      chunk_picks spec shard id len entry rows
      ∙ unless-on (first_number (call_checks spec shard id len)) _ _ (λ at k. rows_say spec shard id len at k rows) inner_composed
      ∙ ap (λ (a : LookupAnswer). on_range a (λ at k. rows_say spec shard id len at k rows)) (sym (index_picks spec shard id len entry))
