-- What holds in the loops of the judge, and what each way out of them shows.
use Rattle.std.proofs.Common.{◌≡◌, ℕ, suc, ◌+◌, ◌-◌, ◌*◌, ◌%◌, ◌^◌, ◌<◌, ◌≤◌, Bool, true, List, ◌∷◌, length, refl, ap, ◌∙◌, add-one, arith, ne_eqb}
use Rattle.endian.specs.Little.{le_at}
use Rattle.endian.specs.Range.{first}
use Rattle.duplicate_ids.specs.Twice.{first_twice}
use Rattle.sharding.specs.declared.Sharding.{Sharding}
use Rattle.shard.specs.declared.index.Fault.{Fault}
use Rattle.shard.specs.declared.ShardFault.{ShardFault}
use Rattle.shard.specs.index.Index.{entry_start_of, entry_end_of, entry_count, id_steps, start_steps, sizes}
use Rattle.shard.specs.index.Tests.{EntryTest, entry_test, entry_place, row_place, first_of, fault}
use Rattle.shard.specs.Faults.{foreign, foreign_at, ends_past, id_test, place_test, end_test, mesh_tests, entry_tests, fault_of, fault_at, no_fault, or_later, first_fault}
use Rattle.shard.proofs.index.Tests.{test_passed, test-failed}
use Rattle.shard.proofs.Walks.{twice-first, twice-none, Walk, ours_hit, Span, span-end, span-start-past, span-past}
use Rattle.shard.proofs.Faulted.{fault-before, fault-empty, fault_past, fault_ragged, fault-entries, fault-entry}

abbrev fault_in : ℕ → ℕ → ℕ → ShardFault
fault_in number m position = record { number = number; minishard = m; position = position }

-- ---- the loop over the minishards from `from` up to `to`, with the faults f

-- from m on there is found what is to be found
pub record Searching (f : ℕ → Fault) (from to m : ℕ) : Type 0 where
  pub left : first_fault f m (to - m) ≡ first_fault f from (to - from)

-- at m, whose fault is x
pub record Reached (f : ℕ → Fault) (from to m : ℕ) (x : Fault) : Type 0 where
  pub left : or_later m x (first_fault f (m + 1) (to - (m + 1))) ≡ first_fault f from (to - from)

-- at m, whose n entries, at p, are still to pass these tests
pub record Testing (f : ℕ → Fault) (from to m p n : ℕ) (tests : List EntryTest) : Type 0 where
  pub reached : Reached f from to m (first_of p n tests)

module _ {f : ℕ → Fault} {from to : ℕ} where
  pub search_start : Searching f from to from
  search_start = record { left = refl }

  pub search_end : {m : ℕ} {r : ShardFault} → Searching f from to m → to ≤ m → r ≡ no_fault → r ≡ first_fault f from (to - from)
  unfolding first_fault
  search_end {m} s l e = let z : to - m ≡ 0 = omega arith in e ∙ (rw z at s.left)

  module _ {m : ℕ} where
    reach : Searching f from to m → m < to → {x : Fault} → x ≡ f m → Reached f from to m x
    unfolding first_fault
    reach s l e = let z : to - m ≡ suc (to - suc m) = omega arith in record { left = rw (e, add-one m) (rw z at s.left) }

    next : {x : Fault} → Reached f from to m x → x.number ≡ 0 → Searching f from to (m + 1)
    unfolding or_later
    next s z = record { left = rw z at s.left }

    given : {x : Fault} {r : ShardFault} → Reached f from to m x → (x.number ≡ 0 → ⊥) → r ≡ fault_in x.number m x.position → r ≡ first_fault f from (to - from)
    unfolding or_later
    given {x} s n e = e ∙ (rw (ne_eqb x.number 0 n) at s.left)

    hit : (k i : ℕ) {r : ShardFault} → Reached f from to m (fault (suc k) i) → r ≡ fault_in (suc k) m i → r ≡ first_fault f from (to - from)
    hit k i s e = given s (λ z. omega arith) e

-- ---- the tests over the entries of m

module _ {f : ℕ → Fault} {from to m p n : ℕ} where
  -- all entries pass the first of them, and the others are left
  pub test-next : {t : EntryTest} {ts : List EntryTest} → Testing f from to m p n (t ∷ ts) → n ≡ first t.fails n → Testing f from to m p n ts
  test-next {t} {ts} r e = record { reached = record { left = rw (test_passed p n t ts e) at r.reached.left } }

  -- entry i fails it
  end-entry : (k : ℕ) {row i q : ℕ} {test : ℕ → Bool} {ts : List EntryTest} {y : ShardFault} → y ≡ fault_in (suc k) m q → q ≡ row_place p n row i
      → Testing f from to m p n (entry_test (suc k) row test ∷ ts) → i ≡ first test n → i < n → y ≡ first_fault f from (to - from)
  end-entry k {row} {i} {q} {test} {ts} u o r e l =
      hit k (row_place p n row i) (record { left = rw (test-failed p n (entry_test (suc k) row test) ts e l) at r.reached.left }) (u ∙ ap (fault_in (suc k) m) o)

  -- all pass 11, and x is what the tests behind it find
  module _ {k row : ℕ} {g h : ℕ → ℕ} {len i sum : ℕ} {ts : List EntryTest} (r : Testing f from to m p n (entry_test k row (ends_past len g h) ∷ ts)) (w : Span g h len n i sum) (l : n ≤ i)
      {x : Fault} (q : x ≡ first_of p n ts) where
    found : Reached f from to m x
    found = rw q (test-next r (span-end w l)).reached

    pub search_next : x.number ≡ 0 → Searching f from to (m + 1)
    search_next = next found

    pub end-given : {y : ShardFault} → (x.number ≡ 0 → ⊥) → y ≡ fault_in x.number m x.position → y ≡ first_fault f from (to - from)
    end-given = given found

-- what entry i fails points at its number in the row that begins at s or q in the data, behind `base` bytes
module _ {f : ℕ → Fault} {from to m n : ℕ} (base : ℕ) where
  -- 10: the place of entry i is another
  pub end-place : (spec : Sharding) (shard : ℕ) (d : List ℕ) (s : ℕ) {ts : List EntryTest} {i id x own : ℕ} {b : Bool} {y : ShardFault}
      → y ≡ fault_in 10 m (base + s + 8 * i) → Testing f from to m (base + s) n (place_test spec shard m d s ∷ ts) → Walk (id_steps d s) (foreign_at spec shard m (id_steps d s)) n i id → i < n
      → x ≡ le_at 8 d (s + 8 * i) → own ≡ (id + x) % 2 ^ 64 → b ≡ foreign spec shard m own → b ≡ true → y ≡ first_fault f from (to - from)
  end-place spec shard d s u r w l e o q t = end-entry 9 u (omega arith) r (ours_hit spec shard m w l e o q t) l

  -- 11: its chunk starts past the file, or ends past it
  module _ (d : List ℕ) (s : ℕ) {q : ℕ} (row : q ≡ s + 8 * n) {ts : List EntryTest} {i end x v z : ℕ} {y : ShardFault} (u : y ≡ fault_in 11 m (base + q + 8 * i))
      (r : Testing f from to m (base + s) n (end_test d s n ∷ ts)) (w : Span (start_steps d s n) (sizes d s n) (length d) n i end) (l : i < n)
      (e : x ≡ start_steps d s n i) (o : v ≡ (end + x) % 2 ^ 64) (g : z ≡ sizes d s n i) where
    pub end-start : length d < v → y ≡ first_fault f from (to - from)
    end-start h = end-entry 10 u (omega arith) r (span-start-past w l e o g h) l

    pub end-size : v ≤ length d → length d - v < z → y ≡ first_fault f from (to - from)
    end-size h k = end-entry 10 u (omega arith) r (span-past w l e o g h k) l

-- ---- the entry of m in the shard index

module _ (spec : Sharding) (shard : ℕ) (x d : List ℕ) (from to m : ℕ) (r : Searching (fault_of spec shard x d) from to m) (l : m < to)
    (s e : ℕ) (p : s ≡ entry_start_of x m) (q : e ≡ entry_end_of x m) where
  at : {y : Fault} → y ≡ fault_at spec shard m (length x) d s e → Reached (fault_of spec shard x d) from to m y
  at h = reach r l (fault-entry spec shard m x d p q h)

  pub end_before : {y : ShardFault} → y ≡ fault_in 7 m (entry_place m) → e < s → y ≡ first_fault (fault_of spec shard x d) from (to - from)
  end_before u h = hit 6 (entry_place m) (at (fault-before spec shard m (length x) d s e h)) u

  pub search_empty : s ≤ e → e ≤ s → Searching (fault_of spec shard x d) from to (m + 1)
  search_empty h o = next (at (fault-empty spec shard m (length x) d s e (omega arith))) refl

  module _ (h : s < e) where
    pub end-past : {y : ShardFault} → y ≡ fault_in 7 m (entry_place m) → length d < e → y ≡ first_fault (fault_of spec shard x d) from (to - from)
    end-past u o = hit 6 (entry_place m) (at (fault_past spec shard m (length x) d s e (omega arith) (λ z. omega arith) o)) u

    pub end_ragged : {y : ShardFault} → y ≡ fault_in 8 m (entry_place m) → e ≤ length d → ((e - s) % 24 ≡ 0 → ⊥) → y ≡ first_fault (fault_of spec shard x d) from (to - from)
    end_ragged u o z = hit 7 (entry_place m) (at (fault_ragged spec shard m (length x) d s e (omega arith) o z)) u

    test-ids : e ≤ length d → (e - s) % 24 ≡ 0 → Testing (fault_of spec shard x d) from to m (length x + s) (entry_count s e) (id_test d s ∷ place_test spec shard m d s ∷ end_test d s (entry_count s e) ∷ mesh_tests spec d s (entry_count s e))
    unfolding entry_tests
    test-ids o z = record { reached = at (fault-entries spec shard m (length x) d s e (omega arith) o z) }

    module _ (o : e ≤ length d) (z : (e - s) % 24 ≡ 0) {i : ℕ} (t : i ≡ first_twice (id_steps d s) (entry_count s e)) where
      -- 9: entry i has the id of an earlier one
      pub end-twice : {y : ShardFault} → y ≡ fault_in 9 m (length x + s + 8 * i) → i < entry_count s e → y ≡ first_fault (fault_of spec shard x d) from (to - from)
      end-twice u h = end-entry 8 u (omega arith) (test-ids o z) (twice-first (id_steps d s) (entry_count s e) t) h

      -- none has
      pub test-places : entry_count s e ≤ i → Testing (fault_of spec shard x d) from to m (length x + s) (entry_count s e) (place_test spec shard m d s ∷ end_test d s (entry_count s e) ∷ mesh_tests spec d s (entry_count s e))
      test-places h = test-next (test-ids o z) (twice-none (id_steps d s) (entry_count s e) t h)
