-- The ranges of a minishard by slots: its index is slot 0, and the item of entry i, lead and chunk, slot i + 1.
use Prim.Native.Nat.{ℕ, zero, suc, ◌≤◌, ◌<◌}
use mathlib.Core.Path.{◌≡◌, refl, sym, ap, ◌∙◌}
use mathlib.Core.Bool.{Bool, true}
use mathlib.Core.Logic.{⊎_elim}
use mathlib.Core.List.{List}
use native.Mathlib.Omega.{arith}
use lib.ListN.{length}
use Rattle.endian.specs.Range.{any_below, first}
use Rattle.endian.proofs.Ranges.{any_hit, first-lt, first_holds}
use Rattle.duplicate_ids.proofs.ids.Cases.{eq-or-not, le-or-lt}
use Rattle.bitmap.specs.Positions.{within}
use Rattle.bitmap.proofs.Within.{same_test, or-first, or-second, or-either, within-yes, within-from, within-to}
use Rattle.sharding.specs.declared.Sharding.{Sharding}
use Rattle.sharding.specs.Specification.{minishard_count_of}
use Rattle.shard.specs.index.Index.{entry_start_of, entry_end_of}
use Rattle.unlisted.specs.ranges.Ranges.{Range, chunk_range, lead_range, index_range, count_in, chunk_start, begin, finish, Has, LiesIn}
use Rattle.unlisted.specs.ranges.Covered.{item_start, in_item, in_items, in_minishard, covered_by}
use Rattle.settled_form.specs.shortest.Shares.{RangesApart}
use Rattle.settled_form.proofs.shortest.Overlaps.{shared_to, apart-shared, shared-more, shared-apart}

-- the minishard of a range, and its slot there
abbrev home : Range → ℕ
home (chunk_range m i) = m
home (lead_range m i) = m
home (index_range m) = m

abbrev slot : Range → ℕ
slot (chunk_range m i) = suc i
slot (lead_range m i) = suc i
slot (index_range m) = 0

-- a slot of minishard m holds the byte at p
unfoldable pub in_slot : Sharding → List ℕ → List ℕ → ℕ → ℕ → ℕ → Bool
in_slot spec index d m p zero = within (entry_start_of index m) (entry_end_of index m) p
in_slot spec index d m p (suc i) = in_item spec d (entry_start_of index m) (count_in index m) p i

-- how many bytes are shared: of the slots of minishard m, and of all minishards
unfoldable pub overlap_in : Sharding → List ℕ → List ℕ → ℕ → ℕ
overlap_in spec index d m = shared_to (in_slot spec index d m) (λ j. 0) (length d) (suc (count_in index m))

unfoldable pub overlap : Sharding → List ℕ → List ℕ → ℕ
overlap spec index d = shared_to (covered_by spec index d) (overlap_in spec index d) (length d) (minishard_count_of spec)

-- ---- tests and ranges

-- a range in a slot that position p lies in
record Lying (spec : Sharding) (index d : List ℕ) (m j p : ℕ) : Type 0 where
  range : Range
  lies : LiesIn spec index d range p
  homed : home range ≡ m
  placed : slot range ≡ j

module _ (spec : Sharding) (index d : List ℕ) where
  -- a minishard holds a byte where one of its slots does
  slot_covers : (m p j : ℕ) → j < suc (count_in index m) → in_slot spec index d m p j ≡ true → covered_by spec index d p m ≡ true
  unfolding covered_by in_minishard in_items in_slot
  slot_covers m p zero l e = or-second (in_items spec d (entry_start_of index m) (count_in index m) (count_in index m) p) (within (entry_start_of index m) (entry_end_of index m) p) e
  slot_covers m p (suc i) l e =
      or-first (in_items spec d (entry_start_of index m) (count_in index m) (count_in index m) p) (within (entry_start_of index m) (entry_end_of index m) p)
      (any_hit (in_item spec d (entry_start_of index m) (count_in index m) p) (count_in index m) i (omega arith) e)

  covered_slot : (m p : ℕ) → covered_by spec index d p m ≡ true → any_below (suc (count_in index m)) (in_slot spec index d m p) ≡ true
  unfolding covered_by in_minishard in_items in_slot
  covered_slot m p e =
      let f = in_item spec d (entry_start_of index m) (count_in index m) p in
      ⊎_elim
      (λ h.
      let l = first-lt f (count_in index m) h in
      any_hit (in_slot spec index d m p) (suc (count_in index m)) (suc (first f (count_in index m))) (omega arith) (first_holds f (count_in index m) l))
      (λ h. any_hit (in_slot spec index d m p) (suc (count_in index m)) 0 (omega arith) h)
      (or-either (in_items spec d (entry_start_of index m) (count_in index m) (count_in index m) p) (within (entry_start_of index m) (entry_end_of index m) p) e)

  pub covered_slots : (m p : ℕ) → covered_by spec index d p m ≡ any_below (suc (count_in index m)) (in_slot spec index d m p)
  covered_slots m p =
      same_test (covered_by spec index d p m) (any_below (suc (count_in index m)) (in_slot spec index d m p)) (covered_slot m p)
      (λ e.
      let l = first-lt (in_slot spec index d m p) (suc (count_in index m)) e in
      slot_covers m p (first (in_slot spec index d m p) (suc (count_in index m))) l (first_holds (in_slot spec index d m p) (suc (count_in index m)) l))

  -- a slot holds exactly the bytes of its ranges
  lies_slot : (r : Range) (p : ℕ) → LiesIn spec index d r p → in_slot spec index d (home r) p (slot r) ≡ true
  unfolding Has begin finish in_item item_start in_slot
  lies_slot (chunk_range m i) p h = within-yes _ _ p (omega (arith, h.from)) h.before
  lies_slot (lead_range m i) p h = within-yes _ _ p h.from (omega (arith, h.before))
  lies_slot (index_range m) p h = within-yes _ _ p h.from h.before

  lies_home : (r : Range) (p : ℕ) → LiesIn spec index d r p → (home r < minishard_count_of spec) × (slot r < suc (count_in index (home r)))
  unfolding Has
  lies_home (chunk_range m i) p h = (h.has.0, omega (arith, h.has.1))
  lies_home (lead_range m i) p h = (h.has.0, omega (arith, h.has.1))
  lies_home (index_range m) p h = (h.has, omega arith)

  slot_lies : (m p j : ℕ) → m < minishard_count_of spec → j < suc (count_in index m) → in_slot spec index d m p j ≡ true → Lying spec index d m j p
  unfolding Has begin finish in_item item_start in_slot
  slot_lies m p zero l k e = record { range = index_range m; lies = record { has = l; from = within-from _ _ p e; before = within-to _ _ p e }; homed = refl; placed = refl }
  slot_lies m p (suc i) l k e =
      ⊎_elim
      (λ (h : chunk_start index d m i ≤ p). record {
        range = chunk_range m i;
        lies = record { has = (l, omega arith); from = h; before = within-to _ _ p e };
        homed = refl;
        placed = refl;
      })
      (λ (h : p < chunk_start index d m i). record {
        range = lead_range m i;
        lies = record { has = (l, omega arith); from = within-from _ _ p e; before = h };
        homed = refl;
        placed = refl;
      })
      (le-or-lt (chunk_start index d m i) p)

  covered_lies : (m p : ℕ) → m < minishard_count_of spec → covered_by spec index d p m ≡ true → (j : ℕ) × Lying spec index d m j p
  covered_lies m p l e =
      let f = in_slot spec index d m p in
      let n = suc (count_in index m) in
      let k = first-lt f n (covered_slot m p e) in
      (first f n, slot_lies m p (first f n) l k (first_holds f n k))

  -- ---- nothing is shared where no two ranges share a byte,

  module _ (apart : RangesApart spec index d) where
    never-two : {m k i j p : ℕ} → Lying spec index d m i p → Lying spec index d k j p → (m ≡ k → i ≡ j → ⊥) → ⊥
    never-two {p = p} x y ne =
        apart.never x.range y.range (λ e. ne (sym x.homed ∙ ap home e ∙ y.homed) (sym x.placed ∙ ap slot e ∙ y.placed)) p x.lies y.lies

    apart_in : (m : ℕ) → m < minishard_count_of spec → overlap_in spec index d m ≡ 0
    unfolding overlap_in
    apart_in m l =
        apart-shared (in_slot spec index d m) (λ j. 0) (length d) (suc (count_in index m))
        (λ p i j q o k u v. never-two (slot_lies m p i l (omega arith) u) (slot_lies m p j l k v) (λ a b. omega arith))
        (λ j k. refl)

    pub apart_none : overlap spec index d ≡ 0
    unfolding overlap
    apart_none =
        apart-shared (covered_by spec index d) (overlap_in spec index d) (length d) (minishard_count_of spec)
        (λ p m k q o l u v. never-two (covered_lies m p (omega arith) u).1 (covered_lies k p l v).1 (λ a b. omega arith))
        apart_in

  -- ---- and only there

  -- two ranges of one slot that share a byte are one
  one-range : (r t : Range) (p : ℕ) → LiesIn spec index d r p → LiesIn spec index d t p → home r ≡ home t → slot r ≡ slot t → r ≡ t
  unfolding begin finish
  one-range (chunk_range m i) (chunk_range k j) p x y e u = let v : i ≡ j = omega arith in cc
  one-range (chunk_range m i) (lead_range k j) p x y e u =
      let v : i ≡ j = omega arith in
      let s : chunk_start index d m i ≡ chunk_start index d k j = rw (e, v) in
      absurd (omega (arith, x.from, y.before))
  one-range (chunk_range m i) (index_range k) p x y e u = absurd (omega arith)
  one-range (lead_range m i) (chunk_range k j) p x y e u =
      let v : i ≡ j = omega arith in
      let s : chunk_start index d m i ≡ chunk_start index d k j = rw (e, v) in
      absurd (omega (arith, x.before, y.from))
  one-range (lead_range m i) (lead_range k j) p x y e u = let v : i ≡ j = omega arith in cc
  one-range (lead_range m i) (index_range k) p x y e u = absurd (omega arith)
  one-range (index_range m) (chunk_range k j) p x y e u = absurd (omega arith)
  one-range (index_range m) (lead_range k j) p x y e u = absurd (omega arith)
  one-range (index_range m) (index_range k) p x y e u = cc

  module _ (inside : (r : Range) (p : ℕ) → LiesIn spec index d r p → p < length d) (z : overlap spec index d ≡ 0) where
    same_home : (r t : Range) (p : ℕ) → LiesIn spec index d r p → LiesIn spec index d t p → (home r ≡ home t → ⊥) → ⊥
    unfolding overlap
    same_home r t p x y ne =
        let a = lies_home r p x in
        let b = lies_home t p y in
        shared-apart (covered_by spec index d) (overlap_in spec index d) (length d) (minishard_count_of spec) z p (home r) (home t) (inside r p x) a.0 b.0
        (slot_covers (home r) p (slot r) a.1 (lies_slot r p x)) (slot_covers (home t) p (slot t) b.1 (lies_slot t p y)) ne

    same_slot : (r t : Range) (p : ℕ) → LiesIn spec index d r p → LiesIn spec index d t p → home r ≡ home t → (slot r ≡ slot t → ⊥) → ⊥
    unfolding overlap overlap_in
    same_slot r t p x y e ne =
        let a = lies_home r p x in
        let b = lies_home t p y in
        let w = shared-more (covered_by spec index d) (overlap_in spec index d) (length d) (minishard_count_of spec) z (home r) a.0 in
        shared-apart (in_slot spec index d (home r)) (λ j. 0) (length d) (suc (count_in index (home r))) w p (slot r) (slot t) (inside r p x) a.1
        (rw e b.1) (lies_slot r p x) (rw e (lies_slot t p y)) ne

    pub none_apart : RangesApart spec index d
    none_apart = record {
      never = λ r t ne p x y.
          ⊎_elim
          (λ (e : home r ≡ home t).
          ⊎_elim (λ (u : slot r ≡ slot t). ne (one-range r t p x y e u)) (λ (u : slot r ≡ slot t → ⊥). same_slot r t p x y e u) (eq-or-not (slot r) (slot t)))
          (λ (e : home r ≡ home t → ⊥). same_home r t p x y e)
          (eq-or-not (home r) (home t));
    }
