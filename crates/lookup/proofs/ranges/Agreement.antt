-- The chain of the three answers is the plain lookup's (the record `AsLookup`).
use Rattle.std.proofs.Common.{◌≡◌, ℕ, zero, suc, ◌+◌, ◌-◌, ◌*◌, ◌<◌, ◌≤◌, Bool, true, false, not, ◌&&◌, ◌||◌, eqb, List, length, take, drop, sym, refl, ap, ◌∙◌, arith, length-drop, length-take-le, drop-drop, eq-eqb, eqb-true}
use mathlib.Core.Bool.{or-false}
use Rattle.refusal.specs.Choice.{pick}
use Rattle.refusal.specs.Checks.{first_number, unless}
use Rattle.endian.specs.Little.{le_at}
use Rattle.endian.specs.Range.{any_below, first}
use Rattle.endian.proofs.Little.{le_at-drop, le_at-take}
use Rattle.endian.proofs.Ranges.{first-lt}
use Rattle.sharding.specs.declared.Sharding.{Sharding}
use Rattle.sharding.specs.Specification.{is_mesh, allowed, minishard_count_of, no_such_shard}
use Rattle.sharding.specs.placement.Place.{shard_of, minishard_of}
use Rattle.sharding.proofs.placement.Placed.{minishard-below}
use Rattle.shard.specs.declared.index.Fault.{Fault}
use Rattle.shard.specs.index.Index.{entry_start_of, entry_end_of, entry_count, id_steps, start_steps, sizes, start_at}
use Rattle.shard.specs.index.Tests.{fault, entry_place, first_of}
use Rattle.shard.proofs.index.Tests.{same-any, same_first, same_tests}
use Rattle.shard.specs.Faults.{bad_entry, bad_length, entry_tests, fault_at, fault_of}
use Rattle.shard.specs.File.{index_length_of, index_part, data_part, file_checks}
use Rattle.shard.proofs.Numbers.{Called, file-called}
use Rattle.lookup.specs.declared.id_search.LookupAnswer.{LookupAnswer}
use Rattle.lookup.specs.declared.id_search.LookupAnswer.TheVariants.{Found, Refused, Faulty}
use Rattle.lookup.specs.id_search.Search.{is_id, chunk_of, found_in}
use Rattle.lookup.proofs.id_search.Seek.{found_picks}
use Rattle.lookup.specs.chosen_minishard.Chosen.{lookup_in}
use Rattle.lookup.proofs.chosen_minishard.InParts.{in_parts}
use Rattle.lookup.specs.Find.{lookup_answer, part_bytes}
use Rattle.lookup.proofs.Answers.{answer-files}
use Rattle.lookup.proofs.Depends.{Alike, same_bad, same-foreign, same-is, same_start, same_outside}
use Rattle.lookup.specs.row_judge.Rows.{row_tests}
use Rattle.lookup.specs.ranges.Steps.{call_checks, other_length, room, bad_bounds, entry_range, index_range, bad_slices, chunk_range}
use Rattle.lookup.specs.ranges.Says.{bounds_say, entry_says, entries_say}
use Rattle.lookup.specs.ranges.Ranges.{Handed}
use Rattle.lookup.proofs.ranges.Answers.{index_picks, chunk_picks}
use Rattle.lookup.proofs.ranges.Passing.{bounds_good}

-- ---- rows that are read alone, and rows in the data

module _ (spec : Sharding) (shard id len : ℕ) (d rows : List ℕ) (s n : ℕ) (volume : is_mesh spec ≡ false) (size : length d ≡ room spec len)
    (ids : Alike n (id_steps d s) (id_steps rows 0)) (starts : Alike n (start_steps d s n) (start_steps rows 0 n)) (counts : Alike n (sizes d s n) (sizes rows 0 n)) where
  same-fault : (at m : ℕ) → first_of at n (entry_tests spec shard m d s n) ≡ first_of at n (row_tests spec shard m (room spec len) rows n)
  unfolding entry_tests row_tests
  same-fault at m =
      rw volume
      (same_tests at n _ _ (refl, refl, same_bad _ _ _ ids, (refl, refl, same-foreign _ _ _ ids spec shard m, (refl, refl, same_outside _ _ _ _ _ starts counts size, tt))))

  same-chunk : (base i : ℕ) (t : Bool) → (t ≡ true → i < n)
      → pick (not t) (Refused 12) (Found (base + start_at (start_steps rows 0 n) (sizes rows 0 n) i) (sizes rows 0 n i))
      ≡ pick (not t) (Refused 12) (Found (base + start_at (start_steps d s n) (sizes d s n) i) (sizes d s n i))
  same-chunk base i true l = rw (same_start _ _ _ _ n starts counts i (l refl), counts i (l refl))
  same-chunk base i false l = refl

  same-found : (base : ℕ) → found_in base rows 0 n id ≡ found_in base d s n id
  unfolding chunk_of
  same-found base =
      let any = same-any (is_id (id_steps d s) id) (is_id (id_steps rows 0) id) n (same-is _ _ _ ids id) in
      let at = same_first (is_id (id_steps d s) id) (is_id (id_steps rows 0) id) n (same-is _ _ _ ids id) in
      rw (found_picks base rows 0 n id, found_picks base d s n id, any, at)
      (same-chunk base (first (is_id (id_steps rows 0) id) n) (any_below n (is_id (id_steps rows 0) id)) (first-lt (is_id (id_steps rows 0) id) n))

  -- what the rows say is what the lookup finds in the data
  same_say : (at : ℕ) → entries_say spec shard id len at n rows
      ≡ unless (λ k. Faulty k (first_of at n (entry_tests spec shard (minishard_of spec id) d s n)).position) (first_of at n (entry_tests spec shard (minishard_of spec id) d s n)).number
      (found_in (index_length_of spec) d s n id)
  unfolding entries_say
  same_say at = rw (same-fault at (minishard_of spec id), same-found (index_length_of spec))

-- the bytes of the minishard index from s to e, read alone
module _ (d : List ℕ) (s e : ℕ) where
  cut-number : (j : ℕ) → j + 8 ≤ e - s → le_at 8 d (s + j) ≡ le_at 8 (take (e - s) (drop s d)) j
  cut-number j l = sym (le_at-take 8 (drop s d) (e - s) j l ∙ le_at-drop 8 d s j)

  cut-row : (p k : ℕ) → p + 8 * k ≤ e - s → (i : ℕ) → i < k → {a b : ℕ} → a ≡ s + p + 8 * i → b ≡ p + 8 * i → le_at 8 d a ≡ le_at 8 (take (e - s) (drop s d)) b
  cut-row p k l i h u v =
      let at : s + (p + 8 * i) ≡ s + p + 8 * i = omega arith in
      rw (u, v, ← at) (cut-number (p + 8 * i) (omega arith))

  cut-ids : Alike (entry_count s e) (id_steps d s) (id_steps (take (e - s) (drop s d)) 0)
  cut-ids i l = cut-row 0 (entry_count s e) (omega arith) i l (omega arith) (omega arith)

  cut-starts : Alike (entry_count s e) (start_steps d s (entry_count s e)) (start_steps (take (e - s) (drop s d)) 0 (entry_count s e))
  cut-starts i l = cut-row (8 * entry_count s e) (entry_count s e) (omega arith) i l (omega arith) (omega arith)

  cut-sizes : Alike (entry_count s e) (sizes d s (entry_count s e)) (sizes (take (e - s) (drop s d)) 0 (entry_count s e))
  cut-sizes i l = cut-row (16 * entry_count s e) (entry_count s e) (omega arith) i l (omega arith) (omega arith)

-- the bytes of the entry, read alone
entry-cut : (spec : Sharding) (m j : ℕ) (f : List ℕ) → m < minishard_count_of spec → j + 8 ≤ 16 → le_at 8 (take 16 (drop (16 * m) f)) j ≡ le_at 8 (index_part spec f) (16 * m + j)
entry-cut spec m j f l h =
    le_at-take 8 (drop (16 * m) f) 16 j h ∙ le_at-drop 8 f (16 * m) j ∙ sym (le_at-take 8 f (index_length_of spec) (16 * m + j) (omega arith))

-- ---- the answers as choices

unless-same : (k : ℕ) (a b : LookupAnswer) → (k ≡ 0 → a ≡ b) → unless Refused k a ≡ unless Refused k b
unfolding unless
unless-same zero a b h = h refl
unless-same (suc k) a b h = refl

fault_says : (a b : Bool) (p : ℕ) (g : Fault) (x : LookupAnswer)
    → unless (λ k. Faulty k (pick a (fault 7 p) (pick b (fault 8 p) g)).position) (pick a (fault 7 p) (pick b (fault 8 p) g)).number x
    ≡ pick a (Faulty 7 p) (pick b (Faulty 8 p) (unless (λ k. Faulty k g.position) g.number x))
unfolding unless
fault_says true b p g x = refl
fault_says false true p g x = refl
fault_says false false p g x = refl

slices_right : (other seven eight empty wrong : Bool) (p : ℕ) (x y : LookupAnswer) → other ≡ false → (seven ≡ false → eight ≡ false → empty ≡ false → wrong ≡ false)
    → (seven ≡ false → eight ≡ false → x ≡ y)
    → pick (other || (not (seven || (eight || empty)) && wrong)) (Refused 31) (pick seven (Faulty 7 p) (pick eight (Faulty 8 p) x)) ≡ pick seven (Faulty 7 p) (pick eight (Faulty 8 p) y)
slices_right true seven eight empty wrong p x y o w h = let z : true ≡ false = o in absurd (let q : ◌≡◌ {A = ℕ} 0 1 = cc in omega arith)
slices_right false true eight empty wrong p x y o w h = refl
slices_right false false true empty wrong p x y o w h = refl
slices_right false false false true wrong p x y o w h = h refl refl
slices_right false false false false wrong p x y o w h = rw (w refl refl refl) (h refl refl)

-- ---- a file and the bytes of it that were handed in

module _ (spec : Sharding) (shard id len : ℕ) (f : List ℕ) (volume : is_mesh spec ≡ false) (size : length f ≡ len) where
  abbrev five : Bool
  five = no_such_shard spec shard || not (eqb (shard_of spec id) shard)

  call_same : first_number (call_checks spec shard id len) ≡ first_number (file_checks spec five f)
  unfolding call_checks file_checks first_number
  call_same = rw (volume, or-false (not (allowed spec)), size)

  lookup-after : lookup_answer spec shard f id ≡ unless Refused (first_number (call_checks spec shard id len)) (lookup_in spec shard (index_part spec f) (data_part spec f) id)
  lookup-after = answer-files spec shard f id ∙ rw call_same

  -- 1, 5 and 6 do not hold
  module _ (z : first_number (call_checks spec shard id len) ≡ 0) where
    call : Called spec five f
    call = file-called spec five f (sym call_same ∙ z)

    first_found : entry_range spec shard id len ≡ Found (16 * minishard_of spec id) 16
    unfolding entry_range unless
    first_found = rw z

    data_length : length (data_part spec f) ≡ room spec len
    data_length = length-drop (index_length_of spec) f ∙ ap (λ (n : ℕ). n - index_length_of spec) size

    index-length : length (index_part spec f) ≡ index_length_of spec
    index-length = length-take-le (index_length_of spec) f call.held

    same-bounds : (s e : ℕ) → bad_entry (data_part spec f) s e ≡ bad_bounds (room spec len) s e
    unfolding bad_entry bad_bounds
    same-bounds s e = rw data_length

    lookup_says : (s e : ℕ) → entry_start_of (index_part spec f) (minishard_of spec id) ≡ s → entry_end_of (index_part spec f) (minishard_of spec id) ≡ e
        → lookup_in spec shard (index_part spec f) (data_part spec f) id
        ≡ pick (bad_bounds (room spec len) s e) (Faulty 7 (entry_place (minishard_of spec id)))
        (pick (bad_length s e) (Faulty 8 (entry_place (minishard_of spec id)))
        (unless (λ k. Faulty k (first_of (index_length_of spec + s) (entry_count s e) (entry_tests spec shard (minishard_of spec id) (data_part spec f) s (entry_count s e))).position)
        (first_of (index_length_of spec + s) (entry_count s e) (entry_tests spec shard (minishard_of spec id) (data_part spec f) s (entry_count s e))).number
        (found_in (index_length_of spec) (data_part spec f) s (entry_count s e) id)))
    unfolding fault_of fault_at
    lookup_says s e u v =
        in_parts spec shard (index_part spec f) (data_part spec f) id
        ∙ rw (index-length, u, v, same-bounds s e) (fault_says (bad_bounds (room spec len) s e) (bad_length s e) _ _ _)

module _ (spec : Sharding) (shard id len : ℕ) (f entry rows : List ℕ) (h : Handed spec shard id len f entry rows) where
  abbrev d : List ℕ
  d = data_part spec f

  module _ (z : first_number (call_checks spec shard id len) ≡ 0) where
    entry-is : entry ≡ take 16 (drop (16 * minishard_of spec id) f)
    entry-is = h.first ∙ ap (λ (r : LookupAnswer). part_bytes r f) (first_found spec shard id len f h.volume h.size z)

    entry_length : length entry ≡ 16
    entry_length =
        let c = call spec shard id len f h.volume h.size z in
        rw entry-is
        (length-take-le 16 (drop (16 * minishard_of spec id) f) (omega (arith, length-drop (16 * minishard_of spec id) f, minishard-below spec id, c.held)))

    entry_right : other_length entry 16 ≡ false
    unfolding other_length
    entry_right = rw (eq-eqb (length entry) 16 entry_length)

    start_is : entry_start_of (index_part spec f) (minishard_of spec id) ≡ entry_start_of entry 0
    start_is =
        let at : 16 * minishard_of spec id + 0 ≡ 16 * minishard_of spec id = omega arith in
        sym (ap (λ (l : List ℕ). le_at 8 l 0) entry-is ∙ (rw at at (entry-cut spec (minishard_of spec id) 0 f (minishard-below spec id) (omega arith))))

    end_is : entry_end_of (index_part spec f) (minishard_of spec id) ≡ entry_end_of entry 0
    end_is = sym (ap (λ (l : List ℕ). le_at 8 l 8) entry-is ∙ entry-cut spec (minishard_of spec id) 8 f (minishard-below spec id) (omega arith))

    second_is : index_range spec shard id len entry ≡ entry_says spec id len entry
    unfolding unless
    second_is = index_picks spec shard id len entry ∙ rw (z, entry_right)

    -- where the entry names a range, its bytes were handed in
    module _ (p : bad_bounds (room spec len) (entry_start_of entry 0) (entry_end_of entry 0) ≡ false) (q : bad_length (entry_start_of entry 0) (entry_end_of entry 0) ≡ false)
        (o : eqb (entry_start_of entry 0) (entry_end_of entry 0) ≡ false) where
      second-found : index_range spec shard id len entry ≡ Found (index_length_of spec + entry_start_of entry 0) (entry_end_of entry 0 - entry_start_of entry 0)
      unfolding bounds_say
      second-found = second_is ∙ rw (p, q, o)

      rows_are : rows ≡ take (entry_end_of entry 0 - entry_start_of entry 0) (drop (entry_start_of entry 0) d)
      rows_are =
          h.second ∙ ap (λ (r : LookupAnswer). part_bytes r f) second-found
          ∙ ap (take (entry_end_of entry 0 - entry_start_of entry 0)) (sym (drop-drop (entry_start_of entry 0) (index_length_of spec) f))

      bounds : entry_end_of entry 0 ≤ room spec len
      bounds = bounds_good (room spec len) (entry_start_of entry 0) (entry_end_of entry 0) p o

      rows_right : other_length rows (entry_end_of entry 0 - entry_start_of entry 0) ≡ false
      unfolding other_length
      rows_right =
          let l = data_length spec shard id len f h.volume h.size z in
          let c = length-take-le (entry_end_of entry 0 - entry_start_of entry 0) (drop (entry_start_of entry 0) d) (omega (arith, length-drop (entry_start_of entry 0) d, bounds, l)) in
          rw (eq-eqb (length rows) (entry_end_of entry 0 - entry_start_of entry 0) (ap length rows_are ∙ c))

    -- what is behind 7 and 8
    rows_agree : (b : Bool) → eqb (entry_start_of entry 0) (entry_end_of entry 0) ≡ b → bad_bounds (room spec len) (entry_start_of entry 0) (entry_end_of entry 0) ≡ false → bad_length (entry_start_of entry 0) (entry_end_of entry 0) ≡ false
        → (at : ℕ) → entries_say spec shard id len at (entry_count (entry_start_of entry 0) (entry_end_of entry 0)) rows
        ≡ unless (λ k. Faulty k (first_of at (entry_count (entry_start_of entry 0) (entry_end_of entry 0)) (entry_tests spec shard (minishard_of spec id) d (entry_start_of entry 0) (entry_count (entry_start_of entry 0) (entry_end_of entry 0)))).position)
        (first_of at (entry_count (entry_start_of entry 0) (entry_end_of entry 0)) (entry_tests spec shard (minishard_of spec id) d (entry_start_of entry 0) (entry_count (entry_start_of entry 0) (entry_end_of entry 0)))).number
        (found_in (index_length_of spec) d (entry_start_of entry 0) (entry_count (entry_start_of entry 0) (entry_end_of entry 0)) id)
    rows_agree true o p q =
        let same = eqb-true (entry_start_of entry 0) (entry_end_of entry 0) o in
        same_say spec shard id len d rows (entry_start_of entry 0) (entry_count (entry_start_of entry 0) (entry_end_of entry 0)) h.volume (data_length spec shard id len f h.volume h.size z)
        (λ i l. absurd (omega arith)) (λ i l. absurd (omega arith)) (λ i l. absurd (omega arith))
    rows_agree false o p q =
        let r = rows_are p q o in
        same_say spec shard id len d rows (entry_start_of entry 0) (entry_count (entry_start_of entry 0) (entry_end_of entry 0)) h.volume (data_length spec shard id len f h.volume h.size z)
        (rw r (cut-ids d (entry_start_of entry 0) (entry_end_of entry 0))) (rw r (cut-starts d (entry_start_of entry 0) (entry_end_of entry 0))) (rw r (cut-sizes d (entry_start_of entry 0) (entry_end_of entry 0)))

    inner_agrees : pick (bad_slices (room spec len) entry rows) (Refused 31)
        (pick (bad_bounds (room spec len) (entry_start_of entry 0) (entry_end_of entry 0)) (Faulty 7 (entry_place (minishard_of spec id)))
        (pick (bad_length (entry_start_of entry 0) (entry_end_of entry 0)) (Faulty 8 (entry_place (minishard_of spec id)))
        (entries_say spec shard id len (index_length_of spec + entry_start_of entry 0) (entry_count (entry_start_of entry 0) (entry_end_of entry 0)) rows)))
        ≡ lookup_in spec shard (index_part spec f) d id
    unfolding bad_slices
    inner_agrees =
        let s = entry_start_of entry 0 in
        let e = entry_end_of entry 0 in
        slices_right (other_length entry 16) (bad_bounds (room spec len) s e) (bad_length s e) (eqb s e) (other_length rows (e - s)) (entry_place (minishard_of spec id)) _ _
        entry_right rows_right (λ p q. rows_agree (eqb s e) refl p q (index_length_of spec + s))
        ∙ sym (lookup_says spec shard id len f h.volume h.size z s e start_is end_is)

  pub third-agrees : chunk_range spec shard id len entry rows ≡ lookup_answer spec shard f id
  third-agrees =
      chunk_picks spec shard id len entry rows
      ∙ unless-same (first_number (call_checks spec shard id len)) _ _ inner_agrees
      ∙ sym (lookup-after spec shard id len f h.volume h.size)
