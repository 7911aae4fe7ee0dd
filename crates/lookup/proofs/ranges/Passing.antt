-- What is known once tests did not refuse: of numbers alone, of an entry, of a minishard index.
use Rattle.std.proofs.Common.{◌≡◌, ℕ, zero, suc, ◌+◌, ◌-◌, ◌*◌, ◌/◌, ◌%◌, ◌<◌, ◌≤◌, Bool, true, false, not, ◌&&◌, ◌||◌, eqb, ltb, List, [], ◌∷◌, sym, refl, ◌∙◌, arith, ltb-false, lt-ltb, eqb-true}
use borrow.Author.Tests.{eqb-false, not-false}
use Rattle.refusal.specs.Choice.{pick}
use Rattle.refusal.specs.Checks.{first_number, unless}
use Rattle.refusal.proofs.Tests.{neither}
use Rattle.sharding.specs.declared.Sharding.{Sharding}
use Rattle.sharding.specs.Specification.{is_mesh, allowed, no_such_shard}
use Rattle.sharding.specs.placement.Place.{shard_of, minishard_of}
use Rattle.sharding.proofs.placement.Placed.{minishard-below}
use Rattle.endian.specs.Range.{any_below, first}
use Rattle.endian.proofs.Ranges.{first-lt}
use Rattle.shard.specs.declared.index.Fault.{Fault}
use Rattle.shard.specs.index.Index.{entry_start_of, entry_end_of, start_steps, sizes, end_at, most_shard_bytes, id_steps}
use Rattle.shard.specs.index.Tests.{EntryTest, fault, entry_place, row_place, test_place, first_of}
use Rattle.shard.proofs.index.Tests.{none-fails}
use Rattle.shard.specs.Faults.{bad_length, ends_past}
use Rattle.shard.specs.File.{index_length_of, bad_file_length}
use Rattle.shard.proofs.Numbers.{pick-zero}
use Rattle.lookup.specs.declared.id_search.LookupAnswer.{LookupAnswer}
use Rattle.lookup.specs.declared.id_search.LookupAnswer.TheVariants.{Found, Refused, Faulty}
use Rattle.lookup.specs.id_search.Search.{is_id, chunk_of, found_in}
use Rattle.lookup.proofs.id_search.Seek.{found-entry, found_picks}
use Rattle.lookup.specs.row_judge.Rows.{row_tests}
use Rattle.lookup.specs.ranges.Steps.{call_checks, other_length, room, bad_bounds, index_range}
use Rattle.lookup.specs.ranges.Says.{bounds_say, entries_say, rows_say, Pointed}
use Rattle.lookup.proofs.ranges.Answers.{index_picks}

-- ---- 1, 5 and 6

pub record Called (spec : Sharding) (len : ℕ) : Type 0 where
  pub permitted : allowed spec ≡ true
  pub volume : is_mesh spec ≡ false
  pub held : index_length_of spec ≤ len
  pub short : len ≤ most_shard_bytes

pub call_passed : (spec : Sharding) (shard id len : ℕ) → first_number (call_checks spec shard id len) ≡ 0 → Called spec len
unfolding call_checks first_number bad_file_length
call_passed spec shard id len z =
    let q1 = pick-zero (not (allowed spec) || is_mesh spec) 0 _ z in
    let q5 = pick-zero (no_such_shard spec shard || not (eqb (shard_of spec id) shard)) 4 _ q1.1 in
    let q6 = pick-zero (bad_file_length spec len) 5 _ q5.1 in
    let one = neither (not (allowed spec)) (is_mesh spec) q1.0 in
    let six = neither (ltb len (index_length_of spec)) (ltb most_shard_bytes len) q6.0 in
    record { permitted = not-false _ one.0; volume = one.1; held = ltb-false _ _ six.0; short = ltb-false _ _ six.1 }

pub call_allowed : (spec : Sharding) (shard id len : ℕ) → first_number (call_checks spec shard id len) ≡ 0 → allowed spec ≡ true
call_allowed spec shard id len z = (call_passed spec shard id len z).permitted

-- an answer that names a range was not refused before
pub unless-found : (k : ℕ) {a : LookupAnswer} {start n : ℕ} → unless Refused k a ≡ Found start n → (k ≡ 0) × (a ≡ Found start n)
unfolding unless
unless-found zero e = (refl, e)
unless-found (suc k) e = let z : ◌≡◌ {A = ℕ} 0 1 = cc in absurd (omega arith)

unless-faulty : (k p : ℕ) {a : LookupAnswer} {start n : ℕ} → unless (λ j. Faulty j p) k a ≡ Found start n → (k ≡ 0) × (a ≡ Found start n)
unfolding unless
unless-faulty zero p e = (refl, e)
unless-faulty (suc k) p e = let z : ◌≡◌ {A = ℕ} 0 1 = cc in absurd (omega arith)

pick-found : (b : Bool) (k : ℕ) {a : LookupAnswer} {start n : ℕ} → pick b (Refused k) a ≡ Found start n → (b ≡ false) × (a ≡ Found start n)
pick-found true k e = let z : ◌≡◌ {A = ℕ} 0 1 = cc in absurd (omega arith)
pick-found false k e = (refl, e)

pick-faulty : (b : Bool) (k p : ℕ) {a : LookupAnswer} {start n : ℕ} → pick b (Faulty k p) a ≡ Found start n → (b ≡ false) × (a ≡ Found start n)
pick-faulty true k p e = let z : ◌≡◌ {A = ℕ} 0 1 = cc in absurd (omega arith)
pick-faulty false k p e = (refl, e)

-- ---- the entry

-- one that names a range ends within the file
pub bounds-order : (n s e : ℕ) → bad_bounds n s e ≡ false → s ≤ e
unfolding bad_bounds
bounds-order n s e p = ltb-false e s (neither (ltb e s) _ p).0

pub bounds_good : (n s e : ℕ) → bad_bounds n s e ≡ false → eqb s e ≡ false → e ≤ n
unfolding bad_bounds
bounds_good n s e p o =
    let q = neither (ltb e s) (ltb s e && ltb n e) p in
    let l = ltb-false e s q.0 in
    let m = eqb-false s e o in
    ltb-false n e (rw (lt-ltb s e (strict m l)) at q.1)
  where
    strict : (s ≡ e → ⊥) → s ≤ e → s < e
    strict m l = omega arith

pub record Named (spec : Sharding) (len s e start n : ℕ) : Type 0 where
  pub ordered : s < e
  pub inside : e ≤ room spec len
  pub placed : start ≡ index_length_of spec + s
  pub counted : n ≡ e - s
  pub whole : n % 24 ≡ 0

module _ (spec : Sharding) (shard id len : ℕ) where
  pub bounds-named : (s e : ℕ) {start n : ℕ} → bounds_say spec id len s e ≡ Found start n → Named spec len s e start n
  unfolding bounds_say bad_length
  bounds-named s e {start} {n} t =
      let q7 = pick-faulty (bad_bounds (room spec len) s e) 7 (entry_place (minishard_of spec id)) t in
      let q8 = pick-faulty (bad_length s e) 8 (entry_place (minishard_of spec id)) q7.1 in
      let q0 = pick-found (eqb s e) 12 q8.1 in
      let found = q0.1 in
      let p : n ≡ e - s = cc in
      let l = bounds-order (room spec len) s e q7.0 in
      let m = eqb-false s e q0.0 in
      record { ordered = strict m l; inside = bounds_good (room spec len) s e q7.0 q0.0; placed = cc; counted = cc; whole = rw p (eqb-true ((e - s) % 24) 0 (not-false _ q8.0)) }
    where
      strict : {a b : ℕ} → (a ≡ b → ⊥) → a ≤ b → a < b
      strict m l = omega arith

  module _ (entry : List ℕ) {start n : ℕ} (t : index_range spec shard id len entry ≡ Found start n) where
    index-called : first_number (call_checks spec shard id len) ≡ 0
    index-called = (unless-found (first_number (call_checks spec shard id len)) (sym (index_picks spec shard id len entry) ∙ t)).0

    pub index-named : Named spec len (entry_start_of entry 0) (entry_end_of entry 0) start n
    index-named =
        let q = unless-found (first_number (call_checks spec shard id len)) (sym (index_picks spec shard id len entry) ∙ t) in
        bounds-named (entry_start_of entry 0) (entry_end_of entry 0) (pick-found (other_length entry 16) 31 q.1).1

    pub index_pointed : Pointed spec shard id len start n
    index_pointed =
        let c = call_passed spec shard id len index-called in
        let w = index-named in
        record { called = index-called; inside = omega (arith, c.held, w.ordered, w.inside, w.placed, w.counted) }

-- as the code has it
pub pointed_by : (spec : Sharding) (shard id len : ℕ) (entry : List ℕ) {r : LookupAnswer} {start n : ℕ} → r ≡ index_range spec shard id len entry → r ≡ Found start n → Pointed spec shard id len start n
pointed_by spec shard id len entry h e = index_pointed spec shard id len entry (sym h ∙ e)

-- ---- the minishard index

module _ (spec : Sharding) (shard id len : ℕ) where
  -- no fault: all chunks end within the file
  pub fault-inside : (m at n : ℕ) (rows : List ℕ) → (first_of at n (row_tests spec shard m (room spec len) rows n)).number ≡ 0
      → (i : ℕ) → i < n → end_at (start_steps rows 0 n) (sizes rows 0 n) i ≤ room spec len
  unfolding row_tests ends_past
  fault-inside m at n rows z i l =
      let p = none-fails at n 11 (row_tests spec shard m (room spec len) rows n) (omega arith, omega arith, (omega arith, omega arith, (omega arith, omega arith, tt))) z in
      ltb-false _ _ (p.1.1.0 i l)

  pub rows_inside : (at count : ℕ) (rows : List ℕ) {start n : ℕ} → index_length_of spec ≤ len → rows_say spec shard id len at count rows ≡ Found start n → start + n ≤ len
  unfolding rows_say entries_say
  rows_inside at count rows held t =
      let k = count / 24 in
      let q = pick-found (other_length rows count) 31 t in
      let f = first_of at k (row_tests spec shard (minishard_of spec id) (room spec len) rows k) in
      let g = unless-faulty f.number f.position q.1 in
      let e = found-entry (index_length_of spec) rows 0 k id _ _ g.1 in
      omega (arith, e.placed, e.counted, fault-inside (minishard_of spec id) at k rows g.0 _ e.among, held)

-- ---- positions lie within the file

unless-fault : (k : ℕ) {a : LookupAnswer} {j p : ℕ} → unless Refused k a ≡ Faulty j p → (k ≡ 0) × (a ≡ Faulty j p)
unfolding unless
unless-fault zero e = (refl, e)
unless-fault (suc k) e = let z : ◌≡◌ {A = ℕ} 0 1 = cc in absurd (omega arith)

pick-fault : (b : Bool) (k : ℕ) {a : LookupAnswer} {j p : ℕ} → pick b (Refused k) a ≡ Faulty j p → a ≡ Faulty j p
pick-fault true k e = let z : ◌≡◌ {A = ℕ} 0 1 = cc in absurd (omega arith)
pick-fault false k e = e

-- the position of a fault is q
pick_at : (b : Bool) (k q : ℕ) {a : LookupAnswer} {j p : ℕ} → (a ≡ Faulty j p → p ≡ q) → pick b (Faulty k q) a ≡ Faulty j p → p ≡ q
pick_at true k q h e = cc
pick_at false k q h e = h e

no-fault : (b : Bool) (k start n : ℕ) {j p q : ℕ} → pick b (Refused k) (Found start n) ≡ Faulty j p → p ≡ q
no-fault true k start n e = let z : ◌≡◌ {A = ℕ} 0 1 = cc in absurd (omega arith)
no-fault false k start n e = let z : ◌≡◌ {A = ℕ} 0 1 = cc in absurd (omega arith)

-- each test points into the first two rows
abbrev Low : List EntryTest → Type 0
Low [] = Unit {0}
Low (t ∷ ts) = (t.row ≤ 1) × Low ts

pick_low : (b : Bool) (f g : Fault) (most : ℕ) → (b ≡ true → f.position + 8 ≤ most) → ((g.number ≡ 0 → ⊥) → g.position + 8 ≤ most) → ((pick b f g).number ≡ 0 → ⊥) → (pick b f g).position + 8 ≤ most
pick_low true f g most h k n = h refl
pick_low false f g most h k n = k n

low-row : (at n row i : ℕ) → row ≤ 1 → i < n → row_place at n row i + 8 ≤ at + 24 * n
low-row at n zero i l h = omega arith
low-row at n (suc zero) i l h = omega arith
low-row at n (suc (suc row)) i l h = absurd (omega arith)

first-low : (at n : ℕ) (ts : List EntryTest) → Low ts → ((first_of at n ts).number ≡ 0 → ⊥) → (first_of at n ts).position + 8 ≤ at + 24 * n
unfolding first_of
first-low at n [] l z = absurd (z refl)
first-low at n (t ∷ ts) l z =
    pick_low (any_below n t.fails) (fault t.number (test_place at n t)) (first_of at n ts) (at + 24 * n)
    (λ e. low-row at n t.row (first t.fails n) l.0 (first-lt t.fails n e)) (first-low at n ts l.1) z

fault_shown : (k q : ℕ) {a : LookupAnswer} {j p : ℕ} → ((i r : ℕ) → a ≡ Faulty i r → ◌≡◌ {A = ℕ} 0 1) → unless (λ i. Faulty i q) k a ≡ Faulty j p → (k ≡ 0 → ⊥) × (p ≡ q)
unfolding unless
fault_shown zero q n e = let z = n _ _ e in absurd (omega arith)
fault_shown (suc k) q n e = ((λ z. omega arith), cc)

found-no-fault : (base : ℕ) (d : List ℕ) (s n id i r : ℕ) → found_in base d s n id ≡ Faulty i r → ◌≡◌ {A = ℕ} 0 1
unfolding chunk_of
found-no-fault base d s n id i r e = go (not (any_below n (is_id (id_steps d s) id))) _ _ (sym (found_picks base d s n id) ∙ e)
  where
    go : (b : Bool) (x y : ℕ) → pick b (Refused 12) (Found x y) ≡ Faulty i r → ◌≡◌ {A = ℕ} 0 1
    go true x y t = cc
    go false x y t = cc

module _ (spec : Sharding) (shard id len : ℕ) where
  pub index-fault : (entry : List ℕ) {k p : ℕ} → index_range spec shard id len entry ≡ Faulty k p → p + 16 ≤ len
  unfolding bounds_say
  index-fault entry e =
      let q = unless-fault (first_number (call_checks spec shard id len)) (sym (index_picks spec shard id len entry) ∙ e) in
      let c = call_passed spec shard id len q.0 in
      let s = entry_start_of entry 0 in
      let w = entry_end_of entry 0 in
      let r = pick_at (bad_bounds (room spec len) s w) 7 (entry_place (minishard_of spec id)) (pick_at (bad_length s w) 8 (entry_place (minishard_of spec id)) (no-fault (eqb s w) 12 _ _)) (pick-fault (other_length entry 16) 31 q.1) in
      omega (arith, r, c.held, minishard-below spec id)

  pub rows-fault-inside : (at count : ℕ) (rows : List ℕ) {k p : ℕ} → at + count ≤ len → rows_say spec shard id len at count rows ≡ Faulty k p → p + 8 ≤ len
  unfolding rows_say entries_say row_tests
  rows-fault-inside at count rows inside e =
      let n = count / 24 in
      let f = first_of at n (row_tests spec shard (minishard_of spec id) (room spec len) rows n) in
      let q = fault_shown f.number f.position (found-no-fault (index_length_of spec) rows 0 n id) (pick-fault (other_length rows count) 31 e) in
      omega (arith, q.1, first-low at n (row_tests spec shard (minishard_of spec id) (room spec len) rows n) (omega arith, (omega arith, (omega arith, tt))) q.0)
