-- A search in the table is the third call of a lookup by ranges, and the plain lookup (the record `Once`).
use Rattle.std.proofs.Common.{◌≡◌, ℕ, zero, suc, ◌+◌, ◌*◌, ◌<◌, ◌≤◌, Bool, true, false, ltb, ◌⊎◌, List, [], ◌∷◌, ◌++◌, length, get_or, take, drop, sym, refl, ap, ◌∙◌, subst, inl, inr, not-suc-le-zero, arith, length-append, take-append-drop, take_at, ltb-false, ltb-true, le-ltb, eq-eqb, ne_eqb}
use mathlib.Core.Bool.{or-true}
use mathlib.Core.Bool as bool
use Rattle.refusal.specs.Choice.{pick}
use Rattle.refusal.specs.Checks.{first_number, unless}
use Rattle.refusal.specs.Buffer.{over}
use Rattle.endian.proofs.Ranges.{any-no, first_hit}
use Rattle.sharding.specs.declared.Sharding.{Sharding}
use Rattle.sharding.specs.Specification.{is_mesh, allowed}
use Rattle.sharding.specs.placement.Place.{minishard_of}
use Rattle.shard.specs.index.Index.{entry_start_of, entry_end_of, id_steps, start_steps, sizes, id_at, start_at}
use Rattle.shard.specs.index.Tests.{entry_place, first_of}
use Rattle.shard.specs.Faults.{bad_length}
use Rattle.shard.specs.File.{index_length_of}
use Rattle.lookup.specs.declared.id_search.LookupAnswer.{LookupAnswer}
use Rattle.lookup.specs.declared.id_search.LookupAnswer.TheVariants as lookup
use Rattle.lookup.specs.id_search.Search.{is_id, found_in}
use Rattle.lookup.proofs.id_search.Seek.{found_first, found_none}
use Rattle.lookup.specs.Find.{lookup_answer, part_bytes}
use Rattle.lookup.specs.row_judge.Rows.{row_tests}
use Rattle.lookup.specs.ranges.Steps.{call_checks, room, bad_bounds, bad_slices, entry_range, index_range, chunk_range}
use Rattle.lookup.specs.ranges.Ranges.{Handed}
use Rattle.lookup.proofs.ranges.Agreement.{third-agrees}
use Rattle.lookup.proofs.ranges.Promises.{ranges_answer_as_lookup}
use Rattle.settled_form.specs.Sorted.{Distinct}
use Rattle.settled_form.proofs.Sorting.{length_sort, mem_sort, sort_mem, rising_sort}
use Rattle.index_sort.specs.declared.three_rows.Entry.{Entry}
use Rattle.index_sort.specs.three_rows.Rows.{id_of, no_entry, nth}
use Rattle.index_sort.proofs.three_rows.Bytes.{entry-eq}
use Rattle.index_sort.proofs.three_rows.Cases.{Either, is, not, either}
use Rattle.index_sort.specs.phases.Rows.{sort_by_id}
use Rattle.index_sort.proofs.phases.Places.{mem_at, at_mem, at-rising}
use Rattle.lookup_table.specs.sorting.Table.{each, id_in, entry_in, numbers_of}
use Rattle.lookup_table.proofs.sorting.Entries.{length-each, each_at, length-numbers}
use Rattle.lookup_table.specs.finding.Find.{searched, table_answer, Rises, OneOf, Finds}
use Rattle.lookup_table.proofs.finding.Laws.{n_searched, table-first}
use Rattle.refusal.specs.declared.CountAnswer.TheVariants.{Count, Refused, Faulty}
use Rattle.lookup_table.specs.Fill.{listed, table_of, count_in, fill_answer, fill_left}
use Rattle.lookup_table.specs.Says.{Verdict, passes, refuses, faults, told, entries_judged, judged, fill_says, fill_holds}
use Rattle.lookup_table.specs.Once.{Together, Once}
use Rattle.lookup_table.proofs.Verdicts.{answer_says, left-holds, chunk-told}
use Rattle.lookup_table.proofs.ByIndex.{call_most}
use Rattle.lookup_table.proofs.Listed.{ids-apart, listed-distinct}

-- ---- the table read

-- entry i of a list that begins with the numbers of entries
numbers-at : (es : List Entry) (rest : List ℕ) (i : ℕ) → i < length es → entry_in (numbers_of es ++ rest) i ≡ nth es i
unfolding numbers_of
numbers-at [] rest i l = absurd (not-suc-le-zero l)
numbers-at (e ∷ es) rest zero l = refl
numbers-at (e ∷ es) rest (suc i) l =
    let a : 3 * suc i ≡ suc (suc (suc (3 * i))) = omega arith in
    let b : 3 * suc i + 1 ≡ suc (suc (suc (3 * i + 1))) = omega arith in
    let c : 3 * suc i + 2 ≡ suc (suc (suc (3 * i + 2))) = omega arith in
    let r = numbers-at es rest i (omega arith) in
    let at : ℕ → ℕ = λ k. get_or (numbers_of (e ∷ es) ++ rest) k 0 in
    entry-eq (ap at a ∙ ap id_of r) (ap at b ∙ ap (λ (x : Entry). x.start) r) (ap at c ∙ ap (λ (x : Entry). x.size) r)

-- ---- a table of entries that passed

module _ (spec : Sharding) (shard m room at base n : ℕ) (rows rest : List ℕ) (z : (first_of at n (row_tests spec shard m room rows n)).number ≡ 0) where
  abbrev es : List Entry
  es = each (listed base rows n) 0 n

  abbrev t : List ℕ
  t = table_of base rows n ++ rest

  distinct : Distinct id_of es
  distinct = listed-distinct spec shard m room at n rows z base

  sorted-length : length (sort_by_id es) ≡ n
  sorted-length = length_sort id_of es ∙ length-each (listed base rows n) 0 n

  entry_at : (i : ℕ) → i < n → entry_in t i ≡ nth (sort_by_id es) i
  unfolding table_of
  entry_at i l = numbers-at (sort_by_id es) rest i (omega (arith, sorted-length))

  pub table-length : length (table_of base rows n) ≡ 3 * n
  unfolding table_of
  table-length = omega (arith, length-numbers (sort_by_id es), sorted-length)

  pub all-searched : searched t n ≡ n
  all-searched = sym (n_searched t n (omega (arith, length-append (table_of base rows n) rest, table-length)))

  strictly : (i j : ℕ) → i < j → j < n → id_in t i < id_in t j
  strictly i j l k =
      let r = at-rising id_of no_entry (sort_by_id es) (rising_sort id_of es distinct) i j l (omega (arith, sorted-length)) in
      omega (arith, ap id_of (entry_at i (omega arith)), ap id_of (entry_at j k))

  pub table-rises : Rises t n
  table-rises = record { rises = λ i j l k. go i j l k (either i j) }
    where
      go : (i j : ℕ) → i ≤ j → j < n → Either i j → id_in t i ≤ id_in t j
      go i j l k (is e) = omega (arith, ap (id_in t) e)
      go i j l k (not ne) = omega (arith, strictly i j (omega (arith, ne)) k)

  -- where an entry of the table is listed
  listed_at : (i : ℕ) → i < n → (j : ℕ) × (j < n) × (entry_in t i ≡ listed base rows n j)
  listed_at i l =
      let m = sort_mem id_of es (mem_at no_entry (sort_by_id es) i (omega (arith, sorted-length)) refl) in
      let r = at_mem no_entry m in
      let k : r.0 < n = omega (arith, r.1, length-each (listed base rows n) 0 n) in
      (r.0, k, entry_at i l ∙ r.2 ∙ each_at (listed base rows n) n r.0 k)

  -- and where a listed entry stands in it
  table_at : (j : ℕ) → j < n → (i : ℕ) × (i < n) × (entry_in t i ≡ listed base rows n j)
  table_at j l =
      let m = mem_sort id_of es (mem_at no_entry es j (omega (arith, length-each (listed base rows n) 0 n)) refl) in
      let r = at_mem no_entry m in
      let k : r.0 < n = omega (arith, r.1, sorted-length) in
      (r.0, k, entry_at r.0 k ∙ sym r.2 ∙ each_at (listed base rows n) n j l)

  module _ (id : ℕ) where
    found_at : (j : ℕ) → j < n → id_at (id_steps rows 0) j ≡ id → found_in base rows 0 n id ≡ lookup.Found (base + start_at (start_steps rows 0 n) (sizes rows 0 n) j) (sizes rows 0 n j)
    unfolding is_id
    found_at j l e =
        let has = eq-eqb (id_at (id_steps rows 0) j) id e in
        found_first base rows 0 n id j l has
        (first_hit (is_id (id_steps rows 0) id) n j
        (any-no (is_id (id_steps rows 0) id) j (λ i k. ne_eqb (id_at (id_steps rows 0) i) id (λ q. let w = ids-apart spec shard m room at n rows z i j (omega arith) l (q ∙ sym e) in omega arith)))
        l has)

    one_found : (r : LookupAnswer) → OneOf t n id r → r ≡ found_in base rows 0 n id
    one_found r o =
        let p = listed_at o.entry o.among in
        o.told
        ∙ ap (λ (e : Entry). lookup.Found e.start e.size) p.2
        ∙ sym (found_at p.0 p.1 (sym (ap id_of p.2) ∙ o.asked))

    none_found : (r : LookupAnswer) → r ≡ table_answer t n id → r ≡ lookup.Refused 12 → r ≡ found_in base rows 0 n id
    none_found r a b = b ∙ sym (found_none base rows 0 n id none)
      where
        none : (j : ℕ) → j < n → id_at (id_steps rows 0) j ≡ id → ⊥
        none j l e =
            let p = table_at j l in
            let has = ap id_of p.2 ∙ e in
            let f = table-first t n id p.0 p.1 has (λ i k q. let w = strictly i p.0 k p.1 in omega arith) in
            let x : ◌≡◌ {A = ℕ} 0 1 = cc in
            omega arith

    pub search_is : (r : LookupAnswer) → Finds t n id r → r ≡ found_in base rows 0 n id
    search_is r h = go h.in_any
      where
        go : OneOf t n id r ⊎ (r ≡ lookup.Refused 12) → r ≡ found_in base rows 0 n id
        go (inl o) = one_found r o
        go (inr e) = none_found r (h.in_order_of table-rises) e

-- ---- what an answer tells of the verdict

says_filled : (v : Verdict) (n : ℕ) (out : List ℕ) (k : ℕ) → fill_says v n out ≡ Count k → (v ≡ passes) × (3 * n ≤ length out) × (k ≡ n)
unfolding fill_says
says_filled passes n out k e = go (ltb (length out) (3 * n)) refl e
  where
    go : (b : Bool) → ltb (length out) (3 * n) ≡ b → pick b (Refused 13) (Count n) ≡ Count k → (passes ≡ passes) × (3 * n ≤ length out) × (k ≡ n)
    go true q p = let z : ◌≡◌ {A = ℕ} 0 1 = cc in absurd (omega arith)
    go false q p = (refl, ltb-false (length out) (3 * n) q, cc)
says_filled (refuses j) n out k e = let z : ◌≡◌ {A = ℕ} 0 1 = cc in absurd (omega arith)
says_filled (faults j p) n out k e = let z : ◌≡◌ {A = ℕ} 0 1 = cc in absurd (omega arith)

says_refused : (v : Verdict) (n : ℕ) (out : List ℕ) (k : ℕ) → fill_says v n out ≡ Refused k → (v ≡ refuses k) ⊎ ((length out < 3 * n) × (k ≡ 13))
unfolding fill_says
says_refused passes n out k e = go (ltb (length out) (3 * n)) refl e
  where
    go : (b : Bool) → ltb (length out) (3 * n) ≡ b → pick b (Refused 13) (Count n) ≡ Refused k → (passes ≡ refuses k) ⊎ ((length out < 3 * n) × (k ≡ 13))
    go true q p = inr (ltb-true (length out) (3 * n) q, cc)
    go false q p = let z : ◌≡◌ {A = ℕ} 0 1 = cc in absurd (omega arith)
says_refused (refuses j) n out k e = inl cc
says_refused (faults j p) n out k e = let z : ◌≡◌ {A = ℕ} 0 1 = cc in absurd (omega arith)

says_faulty : (v : Verdict) (n : ℕ) (out : List ℕ) (k p : ℕ) → fill_says v n out ≡ Faulty k p → v ≡ faults k p
unfolding fill_says
says_faulty passes n out k p e = go (ltb (length out) (3 * n)) e
  where
    go : (b : Bool) → pick b (Refused 13) (Count n) ≡ Faulty k p → passes ≡ faults k p
    go true q = let z : ◌≡◌ {A = ℕ} 0 1 = cc in absurd (omega arith)
    go false q = let z : ◌≡◌ {A = ℕ} 0 1 = cc in absurd (omega arith)
says_faulty (refuses j) n out k p e = let z : ◌≡◌ {A = ℕ} 0 1 = cc in absurd (omega arith)
says_faulty (faults j q) n out k p e = cc

-- ---- what a verdict tells

unless-passes : (k : ℕ) (v : Verdict) → unless refuses k v ≡ passes → v ≡ passes
unfolding unless
unless-passes zero v e = e
unless-passes (suc k) v e = let z : ◌≡◌ {A = ℕ} 0 1 = cc in absurd (omega arith)

pick-passes : (b : Bool) (j : ℕ) (v : Verdict) → pick b (refuses j) v ≡ passes → v ≡ passes
pick-passes true j v e = let z : ◌≡◌ {A = ℕ} 0 1 = cc in absurd (omega arith)
pick-passes false j v e = e

fault-passes : (b : Bool) (j p : ℕ) (v : Verdict) → pick b (faults j p) v ≡ passes → v ≡ passes
fault-passes true j p v e = let z : ◌≡◌ {A = ℕ} 0 1 = cc in absurd (omega arith)
fault-passes false j p v e = e

none_passes : (k q : ℕ) → unless (λ j. faults j q) k passes ≡ passes → k ≡ 0
unfolding unless
none_passes zero q e = refl
none_passes (suc k) q e = let z : ◌≡◌ {A = ℕ} 0 1 = cc in absurd (omega arith)

unless-refuses : (k : ℕ) (v : Verdict) → k ≤ 6 → unless refuses k v ≡ refuses 13 → v ≡ refuses 13
unfolding unless
unless-refuses zero v l e = e
unless-refuses (suc k) v l e = let z : suc k ≡ 13 = cc in absurd (omega arith)

pick-refuses : (b : Bool) (v : Verdict) → pick b (refuses 31) v ≡ refuses 13 → v ≡ refuses 13
pick-refuses true v e = let z : ◌≡◌ {A = ℕ} 31 13 = cc in absurd (omega arith)
pick-refuses false v e = e

fault-refuses : (b : Bool) (j p : ℕ) (v : Verdict) → pick b (faults j p) v ≡ refuses 13 → v ≡ refuses 13
fault-refuses true j p v e = let z : ◌≡◌ {A = ℕ} 0 1 = cc in absurd (omega arith)
fault-refuses false j p v e = e

none-refuses : (k q : ℕ) → unless (λ j. faults j q) k passes ≡ refuses 13 → ⊥
unfolding unless
none-refuses zero q e = let z : ◌≡◌ {A = ℕ} 0 1 = cc in omega arith
none-refuses (suc k) q e = let z : ◌≡◌ {A = ℕ} 0 1 = cc in omega arith

module _ (spec : Sharding) (shard id len : ℕ) (entry rows : List ℕ) where
  -- no fault among the entries
  no-fault : judged spec shard id len entry rows ≡ passes
      → (first_of (index_length_of spec + entry_start_of entry 0) (count_in entry) (row_tests spec shard (minishard_of spec id) (room spec len) rows (count_in entry))).number ≡ 0
  unfolding judged entries_judged
  no-fault h =
      let s = entry_start_of entry 0 in
      let e = entry_end_of entry 0 in
      let p = entry_place (minishard_of spec id) in
      none_passes _ _
      (fault-passes (bad_length s e) 8 p _
      (fault-passes (bad_bounds (room spec len) s e) 7 p _
      (pick-passes (bad_slices (room spec len) entry rows) 31 _ (unless-passes (first_number (call_checks spec shard id len)) _ h))))

  never_thirteen : judged spec shard id len entry rows ≡ refuses 13 → ⊥
  unfolding judged entries_judged
  never_thirteen h =
      let s = entry_start_of entry 0 in
      let e = entry_end_of entry 0 in
      let p = entry_place (minishard_of spec id) in
      none-refuses _ _
      (fault-refuses (bad_length s e) 8 p _
      (fault-refuses (bad_bounds (room spec len) s e) 7 p _
      (pick-refuses (bad_slices (room spec len) entry rows) _ (unless-refuses (first_number (call_checks spec shard id len)) _ (call_most spec shard id len) h))))

-- ---- another id of the shard and minishard

module _ (spec : Sharding) (shard len : ℕ) {id other : ℕ} (t : Together spec id other) where
  same_call : call_checks spec shard other len ≡ call_checks spec shard id len
  unfolding call_checks
  same_call = rw t.shard

  same_first : entry_range spec shard other len ≡ entry_range spec shard id len
  unfolding entry_range
  same_first = rw (same_call, t.minishard)

  same_second : (entry : List ℕ) → index_range spec shard other len entry ≡ index_range spec shard id len entry
  unfolding index_range
  same_second entry = rw (same_call, t.minishard)

  same-judged : (entry rows : List ℕ) → judged spec shard other len entry rows ≡ judged spec shard id len entry rows
  unfolding judged entries_judged
  same-judged entry rows = rw (same_call, t.minishard)

  handed_other : {f entry rows : List ℕ} → Handed spec shard id len f entry rows → Handed spec shard other len f entry rows
  handed_other {f} {entry} h = record {
    volume = h.volume;
    size = h.size;
    first = h.first ∙ ap (λ (r : LookupAnswer). part_bytes r f) (sym same_first);
    second = h.second ∙ ap (λ (r : LookupAnswer). part_bytes r f) (sym (same_second entry));
  }

  chunk_together : (entry rows : List ℕ)
      → chunk_range spec shard other len entry rows ≡ told lookup.Refused lookup.Faulty (judged spec shard id len entry rows) (found_in (index_length_of spec) rows 0 (count_in entry) other)
  chunk_together entry rows = chunk-told spec shard other len entry rows ∙ rw (same-judged entry rows)

-- ---- the two calls

module _ (answer : ℕ → LookupAnswer) (spec : Sharding) (shard id len : ℕ) (entry rows out : List ℕ)
    (by : (other : ℕ) → Together spec id other → answer other ≡ chunk_range spec shard other len entry rows) where
  answer-told : (other : ℕ) → Together spec id other
      → answer other ≡ told lookup.Refused lookup.Faulty (judged spec shard id len entry rows) (found_in (index_length_of spec) rows 0 (count_in entry) other)
  answer-told other t = by other t ∙ chunk_together spec shard len t entry rows

  module _ (n : ℕ) (e : fill_answer spec shard id len entry rows out ≡ Count n) where
    filled : (judged spec shard id len entry rows ≡ passes) × (3 * count_in entry ≤ length out) × (n ≡ count_in entry)
    filled = says_filled (judged spec shard id len entry rows) (count_in entry) out n (sym (answer_says spec shard id len entry rows out) ∙ e)

    left_is : fill_left spec shard id len entry rows out ≡ over (table_of (index_length_of spec) rows n) out
    unfolding fill_holds
    left_is = left-holds spec shard id len entry rows out ∙ rw (filled.0, le-ltb (length out) (3 * count_in entry) filled.1, filled.2)

    sound : (first_of (index_length_of spec + entry_start_of entry 0) n (row_tests spec shard (minishard_of spec id) (room spec len) rows n)).number ≡ 0
    sound = rw filled.2 (no-fault spec shard id len entry rows filled.0)

    table-long : length (table_of (index_length_of spec) rows n) ≡ 3 * n
    table-long = table-length spec shard (minishard_of spec id) (room spec len) (index_length_of spec + entry_start_of entry 0) (index_length_of spec) n rows [] sound

    in_order : (searched (fill_left spec shard id len entry rows out) n ≡ n) × Rises (fill_left spec shard id len entry rows out) n
    in_order =
        let rest = drop (length (table_of (index_length_of spec) rows n)) out in
        rw left_is (
          all-searched spec shard (minishard_of spec id) (room spec len) (index_length_of spec + entry_start_of entry 0) (index_length_of spec) n rows rest sound,
          table-rises spec shard (minishard_of spec id) (room spec len) (index_length_of spec + entry_start_of entry 0) (index_length_of spec) n rows rest sound,
        )

    -- a table that begins with the same numbers
    begins : (table : List ℕ) → take (3 * n) table ≡ take (3 * n) (fill_left spec shard id len entry rows out) → table ≡ table_of (index_length_of spec) rows n ++ drop (3 * n) table
    begins table e =
        let s = table_of (index_length_of spec) rows n in
        let rest = drop (length s) out in
        let all : take (3 * n) (s ++ rest) ≡ s = take_at s rest (3 * n) table-long in
        sym (take-append-drop (3 * n) table) ∙ ap (λ (l : List ℕ). l ++ drop (3 * n) table) (e ∙ ap (take (3 * n)) left_is ∙ all)

    finds-copied : (table : List ℕ) → take (3 * n) table ≡ take (3 * n) (fill_left spec shard id len entry rows out) → (other : ℕ) → Together spec id other → (r : LookupAnswer)
        → Finds table (searched table n) other r → r ≡ answer other
    finds-copied table e other t r w =
        let rest = drop (3 * n) table in
        let b = begins table e in
        let q = all-searched spec shard (minishard_of spec id) (room spec len) (index_length_of spec + entry_start_of entry 0) (index_length_of spec) n rows rest sound in
        search_is spec shard (minishard_of spec id) (room spec len) (index_length_of spec + entry_start_of entry 0) (index_length_of spec) n rows rest sound other r
        (subst (λ (k : ℕ). Finds (table_of (index_length_of spec) rows n ++ rest) k other r) q (subst (λ (l : List ℕ). Finds l (searched l n) other r) b w))
        ∙ sym (answer-told other t ∙ rw (filled.0, filled.2))

  refused_as : (k : ℕ) → fill_answer spec shard id len entry rows out ≡ Refused k → (k ≡ 13 → ⊥) → (other : ℕ) → Together spec id other → answer other ≡ lookup.Refused k
  refused_as k e n other t = go (says_refused (judged spec shard id len entry rows) (count_in entry) out k (sym (answer_says spec shard id len entry rows out) ∙ e))
    where
      go : (judged spec shard id len entry rows ≡ refuses k) ⊎ ((length out < 3 * count_in entry) × (k ≡ 13)) → answer other ≡ lookup.Refused k
      go (inl v) = answer-told other t ∙ rw v
      go (inr w) = absurd (n w.1)

  too_short : fill_answer spec shard id len entry rows out ≡ Refused 13 → length out < 3 * count_in entry
  too_short e = go (says_refused (judged spec shard id len entry rows) (count_in entry) out 13 (sym (answer_says spec shard id len entry rows out) ∙ e))
    where
      go : (judged spec shard id len entry rows ≡ refuses 13) ⊎ ((length out < 3 * count_in entry) × (◌≡◌ {A = ℕ} 13 13)) → length out < 3 * count_in entry
      go (inl v) = absurd (never_thirteen spec shard id len entry rows v)
      go (inr w) = w.0

  once : Once answer spec shard id len entry rows out
  once = record {
    whole = in_order;
    finds = λ n e. finds-copied n e (fill_left spec shard id len entry rows out) refl;
    copied = finds-copied;
    refused = refused_as;
    faulty = λ k p e other t.
        answer-told other t
        ∙ rw (says_faulty (judged spec shard id len entry rows) (count_in entry) out k p (sym (answer_says spec shard id len entry rows out) ∙ e));
    short = too_short;
  }

-- whatever slices are handed in
pub once_as_ranges : (spec : Sharding) (shard id len : ℕ) (entry rows out : List ℕ) → Once (λ other. chunk_range spec shard other len entry rows) spec shard id len entry rows out
once_as_ranges spec shard id len entry rows out = once (λ other. chunk_range spec shard other len entry rows) spec shard id len entry rows out (λ other t. refl)

-- the bytes of a file
pub once_as_lookup : {spec : Sharding} {shard id len : ℕ} {f entry rows : List ℕ} (out : List ℕ) → Handed spec shard id len f entry rows
    → Once (lookup_answer spec shard f) spec shard id len entry rows out
once_as_lookup {spec} {shard} {id} {len} {f} {entry} {rows} out h =
    once (lookup_answer spec shard f) spec shard id len entry rows out (λ other t. sym (third-agrees spec shard other len f entry rows (handed_other spec shard len t h)))

-- of the bytes of a file 31 is never given
pub right-slices : {spec : Sharding} {shard id len : ℕ} {f entry rows : List ℕ} (out : List ℕ) → Handed spec shard id len f entry rows → fill_answer spec shard id len entry rows out ≡ Refused 31 → ⊥
right-slices {spec} {shard} {id} {len} {f} {entry} {rows} out h e =
    (ranges_answer_as_lookup h).right_slices ((once_as_ranges spec shard id len entry rows out).refused 31 e (λ z. omega arith) id (record { shard = refl; minishard = refl }))

-- a mesh is refused with 1
pub mesh_unfilled : (spec : Sharding) (shard id len : ℕ) (entry rows out : List ℕ) → is_mesh spec ≡ true → fill_answer spec shard id len entry rows out ≡ Refused 1
unfolding fill_says judged unless
mesh_unfilled spec shard id len entry rows out h = answer_says spec shard id len entry rows out ∙ rw (mesh_call h)
  where
    mesh_call : is_mesh spec ≡ true → first_number (call_checks spec shard id len) ≡ 1
    mesh_call h = unfold call_checks first_number in rw (h, or-true (bool.not (allowed spec)))
