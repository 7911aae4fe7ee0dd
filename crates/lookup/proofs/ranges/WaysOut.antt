-- What each way out of the code shows.
use Rattle.std.proofs.Common.{◌≡◌, ℕ, ◌+◌, ◌-◌, ◌*◌, ◌/◌, ◌%◌, ◌<◌, ◌≤◌, Bool, true, false, not, ◌||◌, eqb, ltb, List, length, sym, refl, ap, ◌∙◌, ap₂, arith, w64, Fits, le-ltb, lt-ltb, eq-eqb, ne_eqb, eqb-true, le-leb}
use mathlib.Core.Bool.{and-false}
use native.Mathlib.Nat.{sub_self}
use borrow.Author.Tests.{lt-leb, not-false}
use Rattle.refusal.specs.Choice.{pick}
use Rattle.refusal.specs.Checks.{first_number, unless}
use Rattle.refusal.proofs.Tests.{told-no, told-yes}
use Rattle.sharding.specs.declared.Sharding.{Sharding}
use Rattle.sharding.specs.Specification.{is_mesh, allowed, minishard_count_of, shard_count_of, no_such_shard}
use Rattle.sharding.proofs.Allowed.{minishards-most}
use Rattle.sharding.specs.placement.Place.{shard_of, minishard_of}
use Rattle.shard.specs.declared.index.Fault.{Fault}
use Rattle.shard.specs.index.Index.{entry_start_of, entry_end_of, most_shard_bytes}
use Rattle.shard.specs.index.Tests.{first_of}
use Rattle.shard.specs.Faults.{bad_length}
use Rattle.shard.specs.File.{index_length_of, bad_file_length}
use Rattle.shard.proofs.Split.{length-short, length-long, length_good}
use Rattle.shard.proofs.Numbers.{unless-some, unless-none}
use Rattle.lookup.specs.declared.id_search.LookupAnswer.{LookupAnswer}
use Rattle.lookup.specs.declared.id_search.LookupAnswer.TheVariants.{Found, Refused, Faulty}
use Rattle.lookup.specs.id_search.Search.{found_in}
use Rattle.lookup.specs.row_judge.Rows.{row_tests, Passed}
use Rattle.lookup.specs.ranges.Steps.{call_checks, other_length, room, bad_bounds, entry_range, index_range, chunk_range}
use Rattle.lookup.specs.ranges.Says.{bounds_say, entry_says, entries_say, rows_say, Pointed}
use Rattle.lookup.proofs.ranges.Answers.{index_picks}
use Rattle.lookup.proofs.ranges.Composed.{composed}
use Rattle.lookup.proofs.ranges.Passing.{call_passed, fault-inside}

-- ---- the number of 1, 5 and 6

module _ (spec : Sharding) (shard id len : ℕ) where
  call_picks : first_number (call_checks spec shard id len)
      ≡ pick (not (allowed spec) || is_mesh spec) 1 (pick (no_such_shard spec shard || not (eqb (shard_of spec id) shard)) 5 (pick (bad_file_length spec len) 6 0))
  unfolding call_checks first_number
  call_picks = refl

  module _ {b : Bool} (p : b ≡ allowed spec) where
    pub number_spec : not b ≡ true → 1 ≡ first_number (call_checks spec shard id len)
    number_spec q = rw (call_picks, told-no p q)

    module _ (q : not b ≡ false) {g : Bool} (w : g ≡ is_mesh spec) where
      pub number-mesh : g ≡ true → 1 ≡ first_number (call_checks spec shard id len)
      number-mesh t = rw (call_picks, told-yes p q, ← w, t)

      module _ (t : g ≡ false) {c : ℕ} (u : c ≡ shard_count_of spec) where
        pub number-shard : c ≤ shard → 5 ≡ first_number (call_checks spec shard id len)
        number-shard l = rw (call_picks, told-yes p q, ← w, t, ← u, le-leb c shard l)

        module _ (l : shard < c) {s : ℕ} (v : s ≡ shard_of spec id) where
          pub number-other : (s ≡ shard → ⊥) → 5 ≡ first_number (call_checks spec shard id len)
          number-other n = rw (call_picks, told-yes p q, ← w, t, ← u, lt-leb c shard l, ← v, ne_eqb s shard n)

          module _ (o : s ≡ shard) {n : ℕ} (x : n ≡ index_length_of spec) where
            pub number_short : len < n → 6 ≡ first_number (call_checks spec shard id len)
            number_short k = rw (call_picks, told-yes p q, ← w, t, ← u, lt-leb c shard l, ← v, eq-eqb s shard o, length-short spec x k)

            pub number-long : most_shard_bytes < len → 6 ≡ first_number (call_checks spec shard id len)
            number-long k = rw (call_picks, told-yes p q, ← w, t, ← u, lt-leb c shard l, ← v, eq-eqb s shard o, length-long spec len k)

            pub number-none : n ≤ len → len ≤ most_shard_bytes → 0 ≡ first_number (call_checks spec shard id len)
            number-none k h = rw (call_picks, told-yes p q, ← w, t, ← u, lt-leb c shard l, ← v, eq-eqb s shard o, length_good spec x k h)

-- ---- 31

pub length-told : (slice : List ℕ) (n : ℕ) {b : Bool} → b ≡ not (eqb (length slice) n) → b ≡ other_length slice n
unfolding other_length
length-told slice n e = e

right-length : (slice : List ℕ) (n : ℕ) → other_length slice n ≡ false → length slice ≡ n
unfolding other_length
right-length slice n e = eqb-true (length slice) n (not-false _ e)

-- an entry of the right length can be read
pub entry-readable : (entry : List ℕ) → other_length entry 16 ≡ false → 16 ≤ length entry
entry-readable entry e = omega (arith, right-length entry 16 e)

pub told : {a b c : Bool} → a ≡ b → a ≡ c → b ≡ c
told p q = sym p ∙ q

-- ---- what fits, once none of them holds

module _ (spec : Sharding) (shard id len : ℕ) (z : first_number (call_checks spec shard id len) ≡ 0) where
  pub place-fits : {m : ℕ} → m < minishard_count_of spec → Fits w64 (16 * m)
  place-fits l = record { fits = omega (arith, minishards-most spec (call_passed spec shard id len z).permitted) }

  pub base_below : {b : ℕ} → b ≡ index_length_of spec → b ≤ len
  base_below e = omega (arith, (call_passed spec shard id len z).held)

module _ {spec : Sharding} {shard id len at count : ℕ} (p : Pointed spec shard id len at count) where
  pub pointed_allowed : allowed spec ≡ true
  pointed_allowed = (call_passed spec shard id len p.called).permitted

  pub pointed_below : {b : ℕ} → b ≡ index_length_of spec → b ≤ len
  pointed_below e = base_below spec shard id len p.called e

  short : len ≤ most_shard_bytes
  short = (call_passed spec shard id len p.called).short

  module _ (rows : List ℕ) {g : Bool} (q : g ≡ other_length rows count) (t : g ≡ false) where
    pub rows_whole : 24 * (count / 24) ≤ length rows
    rows_whole = omega (arith, right-length rows count (sym q ∙ t))

    pub rows_short : length rows ≤ most_shard_bytes
    rows_short = omega (arith, right-length rows count (sym q ∙ t), short, p.inside)

  pub room-short : (b : ℕ) → len - b ≤ most_shard_bytes
  room-short b = omega (arith, short)

  pub at-short : at ≤ most_shard_bytes
  at-short = omega (arith, short, p.inside)

-- ---- what an entry says

module _ (spec : Sharding) (id len : ℕ) {s e p b : ℕ} (o : p ≡ 16 * minishard_of spec id) (x : b ≡ index_length_of spec) where
  say_before : e < s → Faulty 7 p ≡ bounds_say spec id len s e
  unfolding bounds_say bad_bounds
  say_before l = rw (lt-ltb e s l, o)

  module _ (l : s ≤ e) (n : s ≡ e → ⊥) where
    say_past : len - b < e → Faulty 7 p ≡ bounds_say spec id len s e
    unfolding bounds_say bad_bounds
    say_past h = rw (le-ltb e s l, lt-ltb s e (omega arith), ← x, lt-ltb (len - b) e h, o)

    module _ (h : e ≤ len - b) where
      say_good : bad_bounds (room spec len) s e ≡ false
      unfolding bad_bounds
      say_good = rw (le-ltb e s l, ← x, le-ltb (len - b) e h) (and-false (ltb s e))

      say_ragged : ((e - s) % 24 ≡ 0 → ⊥) → Faulty 8 p ≡ bounds_say spec id len s e
      unfolding bounds_say bad_length
      say_ragged r = rw (say_good, ne_eqb ((e - s) % 24) 0 r, o)

      say_range : (e - s) % 24 ≡ 0 → Found (b + s) (e - s) ≡ bounds_say spec id len s e
      unfolding bounds_say bad_length
      say_range r = rw (say_good, eq-eqb ((e - s) % 24) 0 r, ne_eqb s e n, x)

say_empty : (spec : Sharding) (id len : ℕ) {s e : ℕ} → s ≡ e → Refused 12 ≡ bounds_say spec id len s e
unfolding bounds_say bad_bounds bad_length
say_empty spec id len {s} q = rw (← q, le-ltb s s (omega arith), sub_self s, eq-eqb s s refl)

-- the same, as the entry was read
pub entry-empty : (spec : Sharding) (id len : ℕ) (entry : List ℕ) {s e : ℕ} → s ≡ entry_start_of entry 0 → e ≡ entry_end_of entry 0 → s ≡ e → Refused 12 ≡ entry_says spec id len entry
entry-empty spec id len entry u v q = say_empty spec id len (sym u ∙ q ∙ v)

module _ (spec : Sharding) (id len : ℕ) (entry : List ℕ) {m s e p b : ℕ} (w : m ≡ minishard_of spec id) (o : p ≡ 16 * m) (x : b ≡ index_length_of spec) (u : s ≡ entry_start_of entry 0) (v : e ≡ entry_end_of entry 0) where
  placed : p ≡ 16 * minishard_of spec id
  placed = o ∙ ap (λ (k : ℕ). 16 * k) w

  as_read : {a : LookupAnswer} → a ≡ bounds_say spec id len s e → a ≡ entry_says spec id len entry
  as_read h = rw (u, v) at h

  pub entry-before : e < s → Faulty 7 p ≡ entry_says spec id len entry
  entry-before l = as_read (say_before spec id len placed x l)

  module _ (l : s ≤ e) (n : s ≡ e → ⊥) where
    pub entry_past : len - b < e → Faulty 7 p ≡ entry_says spec id len entry
    entry_past h = as_read (say_past spec id len placed x l n h)

    pub entry_ragged : e ≤ len - b → ((e - s) % 24 ≡ 0 → ⊥) → Faulty 8 p ≡ entry_says spec id len entry
    entry_ragged h r = as_read (say_ragged spec id len placed x l n h r)

pub entry-names : (spec : Sharding) (id len : ℕ) (entry : List ℕ) {s e b : ℕ} → b ≡ index_length_of spec → s ≡ entry_start_of entry 0 → e ≡ entry_end_of entry 0 → s ≤ e → (s ≡ e → ⊥) → e ≤ len - b
    → (e - s) % 24 ≡ 0 → Found (b + s) (e - s) ≡ entry_says spec id len entry
entry-names spec id len entry x u v l n h r = say_range spec id len refl x l n h r ∙ ap₂ (bounds_say spec id len) u v

-- ---- what a minishard index says

module _ (spec : Sharding) (shard id len at count : ℕ) (rows : List ℕ) where
  pub rows_wrong : {g : Bool} → g ≡ other_length rows count → g ≡ true → Refused 31 ≡ rows_say spec shard id len at count rows
  unfolding rows_say
  rows_wrong p t = rw (← p, t)

  module _ {g : Bool} (q : g ≡ other_length rows count) (t : g ≡ false) {b m : ℕ} (x : b ≡ index_length_of spec) (w : m ≡ minishard_of spec id) {f : Fault} (h : f ≡ first_of at (count / 24) (row_tests spec shard m (len - b) rows (count / 24))) where
    fault-is : f ≡ first_of at (count / 24) (row_tests spec shard (minishard_of spec id) (room spec len) rows (count / 24))
    fault-is = rw (w, x) at h

    rows_right : rows_say spec shard id len at count rows ≡ unless (λ k. Faulty k f.position) f.number (found_in (index_length_of spec) rows 0 (count / 24) id)
    unfolding rows_say entries_say
    rows_right = rw (← q, t, fault-is)

    pub rows-faulty : (f.number ≡ 0 → ⊥) → Faulty f.number f.position ≡ rows_say spec shard id len at count rows
    rows-faulty n = rw rows_right (unless-some (λ k. Faulty k f.position) _ _ n)

    pub rows-found : f.number ≡ 0 → {a : LookupAnswer} → a ≡ found_in b rows 0 (count / 24) id → a ≡ rows_say spec shard id len at count rows
    rows-found z e = rw (rows_right, ← x) (e ∙ unless-none (λ k. Faulty k f.position) _ _ z)

    pub rows_passed : first_number (call_checks spec shard id len) ≡ 0 → f.number ≡ 0 → Passed b rows (count / 24)
    rows_passed c z =
        let k = call_passed spec shard id len c in
        let l = right-length rows count (sym q ∙ t) in
        record {
          near = omega (arith, k.held, k.short);
          whole = omega arith;
          inside = λ i j. omega (arith, fault-inside spec shard id len (minishard_of spec id) at (count / 24) rows (ap (λ (g : Fault). g.number) (sym fault-is) ∙ z) i j, k.short);
        }

-- ---- the calls

module _ (spec : Sharding) (shard id len : ℕ) {k : ℕ} (h : k ≡ first_number (call_checks spec shard id len)) where
  pub first-refused : (k ≡ 0 → ⊥) → Refused k ≡ entry_range spec shard id len
  unfolding entry_range
  first-refused n = rw (← h) (unless-some Refused k _ n)

  pub first-named : k ≡ 0 → {m : ℕ} → m ≡ minishard_of spec id → Found (16 * m) 16 ≡ entry_range spec shard id len
  unfolding entry_range
  first-named z w = rw (← h, w) (unless-none Refused k _ z)

  module _ (entry : List ℕ) where
    pub second-refused : (k ≡ 0 → ⊥) → Refused k ≡ index_range spec shard id len entry
    second-refused n = rw (index_picks spec shard id len entry, ← h) (unless-some Refused k _ n)

    pub second_wrong : k ≡ 0 → {g : Bool} → g ≡ other_length entry 16 → g ≡ true → Refused 31 ≡ index_range spec shard id len entry
    second_wrong z q t = rw (index_picks spec shard id len entry, ← h, ← q, t) (unless-none Refused k _ z)

    pub second_says : k ≡ 0 → {g : Bool} → g ≡ other_length entry 16 → g ≡ false → {a : LookupAnswer} → a ≡ entry_says spec id len entry → a ≡ index_range spec shard id len entry
    second_says z q t e = rw (index_picks spec shard id len entry, ← h, ← q, t) (e ∙ unless-none Refused k _ z)

  pub first-allowed : k ≡ 0 → allowed spec ≡ true
  first-allowed z = (call_passed spec shard id len (sym h ∙ z)).permitted

  pub first_fits : k ≡ 0 → {m : ℕ} → m < minishard_count_of spec → Fits w64 (16 * m)
  first_fits z = place-fits spec shard id len (sym h ∙ z)

module _ (spec : Sharding) (shard id len : ℕ) (entry rows : List ℕ) {r : LookupAnswer} (h : r ≡ index_range spec shard id len entry) where
  pub third_says : {at k : ℕ} → r ≡ Found at k → {a : LookupAnswer} → a ≡ rows_say spec shard id len at k rows → a ≡ chunk_range spec shard id len entry rows
  third_says e t = rw (composed spec shard id len entry rows, ← h, e) t

  pub third-refused : {k : ℕ} → r ≡ Refused k → Refused k ≡ chunk_range spec shard id len entry rows
  third-refused e = rw (composed spec shard id len entry rows, ← h, e)

  pub third-faulty : {k p : ℕ} → r ≡ Faulty k p → Faulty k p ≡ chunk_range spec shard id len entry rows
  third-faulty e = rw (composed spec shard id len entry rows, ← h, e)
