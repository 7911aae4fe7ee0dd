-- What each way out of the code shows.
use Rattle.std.proofs.Common.{◌≡◌, ℕ, ◌-◌, ◌*◌, ◌/◌, ◌<◌, ◌≤◌, Bool, true, false, eqb, List, [], length, sym, refl, ap, ◌∙◌, arith, rules, le-ltb, lt-ltb, eq-eqb, ne_eqb, eqb-true}
use Rattle.refusal.specs.Choice.{pick}
use Rattle.refusal.specs.Checks.{unless}
use Rattle.refusal.specs.Buffer.{over}
use Rattle.sharding.specs.declared.Sharding.{Sharding}
use Rattle.sharding.specs.placement.Place.{minishard_of}
use Rattle.shard.specs.declared.index.Fault.{Fault}
use Rattle.shard.specs.index.Tests.{first_of}
use Rattle.shard.specs.File.{index_length_of}
use Rattle.shard.proofs.Numbers.{unless-some, unless-none}
use Rattle.lookup.specs.declared.id_search.LookupAnswer.{LookupAnswer}
use Rattle.lookup.specs.declared.id_search.LookupAnswer.TheVariants as lookup
use Rattle.lookup.specs.row_judge.Rows.{row_tests}
use Rattle.lookup.specs.ranges.Steps.{other_length, index_range}
use Rattle.lookup.proofs.ranges.Passing.{index-named, pointed_by}
use Rattle.settled_form.specs.Sorted.{Distinct, sort_by}
use Rattle.index_sort.specs.three_rows.Rows.{id_of}
use Rattle.index_sort.specs.phases.Rows.{sort_by_id}
use Rattle.lookup_table.specs.sorting.Table.{each, entries_in, numbers_of, Front}
use Rattle.lookup_table.proofs.sorting.Entries.{table-over, only_then}
use Rattle.refusal.specs.declared.CountAnswer.{CountAnswer}
use Rattle.refusal.specs.declared.CountAnswer.TheVariants.{Count, Refused, Faulty}
use Rattle.lookup_table.specs.Fill.{listed, table_of, count_in, fill_answer, fill_left}
use Rattle.lookup_table.specs.Says.{passes, refuses, faults, entries_judged, rows_judged, judged, fill_says, fill_holds, empty_or}
use Rattle.lookup_table.proofs.Verdicts.{answer_says, left-holds}
use Rattle.lookup_table.proofs.ByIndex.{by_index, twelve_empty}
use Rattle.lookup_table.proofs.Listed.{listed-distinct}

-- ---- the table of entries that passed

module _ (base n : ℕ) (rows d : List ℕ) (w : entries_in d n ≡ each (listed base rows n) 0 n) where
  pub still_distinct : Distinct id_of (each (listed base rows n) 0 n) → Distinct id_of (entries_in d n)
  still_distinct u = rw w u

  pub table-written : {d₀ e : List ℕ} → Front (3 * n) d₀ d → 3 * n ≤ length d₀ → entries_in e n ≡ sort_by_id (entries_in d n) → Front (3 * n) d e → e ≡ over (table_of base rows n) d₀
  unfolding table_of
  table-written {d₀} {e} o l s p =
      let q = only_then o p in
      let k : 3 * n ≤ length e = omega (arith, q.long) in
      rw (← w, ← s) (table-over d₀ e n k q)

pub still_room : (n : ℕ) {d₀ d : List ℕ} → Front (3 * n) d₀ d → 3 * n ≤ length d₀ → 3 * n ≤ length d
still_room n o l = omega (arith, o.long)

pub ruleset tabling = (still_distinct, still_room, table-written, rules)

-- ---- a minishard index

module _ (spec : Sharding) (shard id len at count : ℕ) (rows out : List ℕ) where
  module _ {g : Bool} (q : g ≡ other_length rows count) where
    pub wrong_says : g ≡ true → Refused 31 ≡ fill_says (rows_judged spec shard id len at count rows) (count / 24) out
    unfolding rows_judged fill_says
    wrong_says t = rw (← q, t)

    pub wrong_holds : g ≡ true → out ≡ fill_holds (rows_judged spec shard id len at count rows) (index_length_of spec) rows (count / 24) out
    unfolding rows_judged fill_holds
    wrong_holds t = rw (← q, t)

    module _ (t : g ≡ false) {b m : ℕ} (x : b ≡ index_length_of spec) (w : m ≡ minishard_of spec id) {f : Fault}
        (h : f ≡ first_of at (count / 24) (row_tests spec shard m (len - b) rows (count / 24))) where
      verdict : rows_judged spec shard id len at count rows ≡ unless (λ k. faults k f.position) f.number passes
      unfolding rows_judged entries_judged
      verdict = rw (← q, t, ← w, ← x, ← h)

      module _ (n : f.number ≡ 0 → ⊥) where
        faulty : rows_judged spec shard id len at count rows ≡ faults f.number f.position
        faulty = verdict ∙ sym (unless-some (λ k. faults k f.position) _ _ n)

        pub faulty_says : Faulty f.number f.position ≡ fill_says (rows_judged spec shard id len at count rows) (count / 24) out
        unfolding fill_says
        faulty_says = rw faulty

        pub faulty-holds : out ≡ fill_holds (rows_judged spec shard id len at count rows) (index_length_of spec) rows (count / 24) out
        unfolding fill_holds
        faulty-holds = rw faulty

      module _ (z : f.number ≡ 0) where
        sound : rows_judged spec shard id len at count rows ≡ passes
        sound = verdict ∙ sym (unless-none (λ k. faults k f.position) _ _ z)

        pub rows-distinct : Distinct id_of (each (listed b rows (count / 24)) 0 (count / 24))
        rows-distinct = listed-distinct spec shard m (len - b) at (count / 24) rows (ap (λ (k : Fault). k.number) (sym h) ∙ z) b

        module _ (l : length out < 3 * (count / 24)) where
          pub short_says : Refused 13 ≡ fill_says (rows_judged spec shard id len at count rows) (count / 24) out
          unfolding fill_says
          short_says = rw (sound, lt-ltb (length out) (3 * (count / 24)) l)

          pub short-holds : out ≡ fill_holds (rows_judged spec shard id len at count rows) (index_length_of spec) rows (count / 24) out
          unfolding fill_holds
          short-holds = rw (sound, lt-ltb (length out) (3 * (count / 24)) l)

        module _ (l : 3 * (count / 24) ≤ length out) where
          pub filled_says : Count (count / 24) ≡ fill_says (rows_judged spec shard id len at count rows) (count / 24) out
          unfolding fill_says
          filled_says = rw (sound, le-ltb (length out) (3 * (count / 24)) l)

          pub filled_holds : {e : List ℕ} → e ≡ over (table_of b rows (count / 24)) out → e ≡ fill_holds (rows_judged spec shard id len at count rows) (index_length_of spec) rows (count / 24) out
          unfolding fill_holds
          filled_holds k = rw (sound, le-ltb (length out) (3 * (count / 24)) l, ← x) k

pub ruleset filling = (wrong_says, wrong_holds, faulty_says, faulty-holds, rows-distinct, short_says, short-holds, filled_says, filled_holds, rules)

-- ---- the call

pub is-empty : (k : ℕ) → k ≡ 12 → Count 0 ≡ empty_or k
unfolding empty_or
is-empty k e = rw (eq-eqb k 12 e)

pub is-refusal : (k : ℕ) → (k ≡ 12 → ⊥) → Refused k ≡ empty_or k
unfolding empty_or
is-refusal k n = rw (ne_eqb k 12 n)

pub ruleset emptying = (is-empty, is-refusal, rules)

no_table : (base : ℕ) (rows : List ℕ) → table_of base rows 0 ≡ []
unfolding table_of each sort_by numbers_of
no_table base rows = refl

module _ (spec : Sharding) (shard id len : ℕ) (entry rows out : List ℕ) {g : LookupAnswer} (h : g ≡ index_range spec shard id len entry) where
  module _ {at k : ℕ} (e : g ≡ lookup.Found at k) where
    count-is : k / 24 ≡ count_in entry
    count-is = ap (λ (c : ℕ). c / 24) (index-named spec shard id len entry (sym h ∙ e)).counted

    verdict-is : rows_judged spec shard id len at k rows ≡ judged spec shard id len entry rows
    verdict-is = sym (by_index spec shard id len entry rows ∙ rw (← h, e))

    pub call_says : {r : CountAnswer} → r ≡ fill_says (rows_judged spec shard id len at k rows) (k / 24) out → r ≡ fill_answer spec shard id len entry rows out
    call_says p = rw (answer_says spec shard id len entry rows out, ← count-is, ← verdict-is) p

    pub call_holds : {d : List ℕ} → d ≡ fill_holds (rows_judged spec shard id len at k rows) (index_length_of spec) rows (k / 24) out → d ≡ fill_left spec shard id len entry rows out
    call_holds p = rw (left-holds spec shard id len entry rows out, ← count-is, ← verdict-is) p

  module _ {k : ℕ} (e : g ≡ lookup.Refused k) where
    refusal_is : judged spec shard id len entry rows ≡ pick (eqb k 12) passes (refuses k)
    refusal_is = by_index spec shard id len entry rows ∙ rw (← h, e)

    says_by : (b : Bool) → eqb k 12 ≡ b → empty_or k ≡ fill_says (pick b passes (refuses k)) (count_in entry) out
    unfolding fill_says empty_or
    says_by true q = rw (q, twelve_empty spec shard id len entry (sym h ∙ e ∙ ap lookup.Refused (eqb-true k 12 q)), le-ltb (length out) (3 * 0) (omega arith))
    says_by false q = rw q

    holds_by : (b : Bool) → eqb k 12 ≡ b → out ≡ fill_holds (pick b passes (refuses k)) (index_length_of spec) rows (count_in entry) out
    unfolding fill_holds
    holds_by true q = rw (twelve_empty spec shard id len entry (sym h ∙ e ∙ ap lookup.Refused (eqb-true k 12 q)), le-ltb (length out) (3 * 0) (omega arith), no_table (index_length_of spec) rows)
    holds_by false q = refl

    pub refused_says : {r : CountAnswer} → r ≡ empty_or k → r ≡ fill_answer spec shard id len entry rows out
    refused_says p = rw (answer_says spec shard id len entry rows out, refusal_is) (p ∙ says_by (eqb k 12) refl)

    pub refused-holds : out ≡ fill_left spec shard id len entry rows out
    refused-holds = rw (left-holds spec shard id len entry rows out, refusal_is) (holds_by (eqb k 12) refl)

  module _ {k p : ℕ} (e : g ≡ lookup.Faulty k p) where
    fault-is : judged spec shard id len entry rows ≡ faults k p
    fault-is = by_index spec shard id len entry rows ∙ rw (← h, e)

    pub fault_says : Faulty k p ≡ fill_answer spec shard id len entry rows out
    unfolding fill_says
    fault_says = rw (answer_says spec shard id len entry rows out, fault-is)

    pub fault-holds : out ≡ fill_left spec shard id len entry rows out
    unfolding fill_holds
    fault-holds = rw (left-holds spec shard id len entry rows out, fault-is)

pub ruleset calling = (pointed_by, call_says, call_holds, refused_says, refused-holds, fault_says, fault-holds, rules)
