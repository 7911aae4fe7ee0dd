-- The tests say what the definitions say of each byte; the count is 0 exactly where no byte is unlisted.
use Rattle.std.proofs.Common.{◌≡◌, ℕ, ◌<◌, Bool, true, false, ltb, ◌↔◌, List, length, sym, refl, ◌∙◌, ⊎_elim, true≢false, arith, ltb-false, ltb-true}
use Rattle.endian.specs.Range.{first}
use Rattle.endian.proofs.Ranges.{any_hit, first-lt, first_holds}
use Rattle.bitmap.specs.Positions.{within}
use Rattle.bitmap.proofs.Within.{or-first, or-second, or-either, within-yes, within-from, within-to}
use Rattle.bitmap.proofs.Counts.{misses-none, misses-zero}
use Rattle.sharding.specs.declared.Sharding.{Sharding}
use Rattle.sharding.specs.Specification.{minishard_count_of}
use Rattle.shard.specs.index.Index.{entry_start_of, entry_end_of}
use Rattle.unlisted.specs.ranges.Ranges.{Range, chunk_range, lead_range, index_range, count_in, chunk_start, begin, finish, Has, LiesIn, Listed, Unlisted}
use Rattle.unlisted.specs.ranges.Covered.{item_start, in_item, in_items, in_minishard, covered_by, covered_in, covered_at, unlisted_bytes}

module _ (spec : Sharding) (index d : List ℕ) (p : ℕ) where
  -- ---- one range

  covered_of : (m : ℕ) → m < minishard_count_of spec → in_minishard spec d (entry_start_of index m) (entry_end_of index m) p ≡ true → covered_at spec index d p ≡ true
  unfolding covered_at covered_in covered_by
  covered_of m l e = any_hit (covered_by spec index d p) (minishard_count_of spec) m l e

  item_of : (m i : ℕ) → m < minishard_count_of spec → i < count_in index m → in_item spec d (entry_start_of index m) (count_in index m) p i ≡ true
      → covered_at spec index d p ≡ true
  unfolding in_minishard in_items
  item_of m i l k e =
      covered_of m l
      (or-first (in_items spec d (entry_start_of index m) (count_in index m) (count_in index m) p) (within (entry_start_of index m) (entry_end_of index m) p)
      (any_hit (in_item spec d (entry_start_of index m) (count_in index m) p) (count_in index m) i k e))

  lies_covered : (r : Range) → LiesIn spec index d r p → covered_at spec index d p ≡ true
  unfolding Has begin finish in_item item_start in_minishard
  lies_covered (chunk_range m i) h =
      item_of m i h.has.0 h.has.1 (within-yes _ _ p (omega (arith, h.from)) h.before)
  lies_covered (lead_range m i) h =
      item_of m i h.has.0 h.has.1 (within-yes _ _ p h.from (omega (arith, h.before)))
  lies_covered (index_range m) h =
      covered_of m h.has
      (or-second (in_items spec d (entry_start_of index m) (count_in index m) (count_in index m) p) (within (entry_start_of index m) (entry_end_of index m) p)
      (within-yes (entry_start_of index m) (entry_end_of index m) p h.from h.before))

  -- ---- some range

  -- an item's bytes are its lead's and its chunk's
  item-lies : (m i : ℕ) → m < minishard_count_of spec → i < count_in index m → in_item spec d (entry_start_of index m) (count_in index m) p i ≡ true
      → Listed spec index d p
  unfolding Has begin finish in_item item_start
  item-lies m i l k e = go (ltb p (chunk_start index d m i)) refl
    where
      go : (b : Bool) → ltb p (chunk_start index d m i) ≡ b → Listed spec index d p
      go true q = record { range = lead_range m i; lies = record { has = (l, k); from = within-from _ _ p e; before = ltb-true p (chunk_start index d m i) q } }
      go false q = record { range = chunk_range m i; lies = record { has = (l, k); from = ltb-false p (chunk_start index d m i) q; before = within-to _ _ p e } }

  minishard-lies : (m : ℕ) → m < minishard_count_of spec → in_minishard spec d (entry_start_of index m) (entry_end_of index m) p ≡ true → Listed spec index d p
  unfolding in_minishard in_items Has begin finish
  minishard-lies m l e =
      ⊎_elim
      (λ h.
      let k = first-lt (in_item spec d (entry_start_of index m) (count_in index m) p) (count_in index m) h in
      item-lies m (first (in_item spec d (entry_start_of index m) (count_in index m) p) (count_in index m)) l k
      (first_holds (in_item spec d (entry_start_of index m) (count_in index m) p) (count_in index m) k))
      (λ h. record {
        range = index_range m;
        lies = record { has = l; from = within-from (entry_start_of index m) (entry_end_of index m) p h; before = within-to (entry_start_of index m) (entry_end_of index m) p h };
      })
      (or-either (in_items spec d (entry_start_of index m) (count_in index m) (count_in index m) p) (within (entry_start_of index m) (entry_end_of index m) p) e)

  covered_lies : covered_at spec index d p ≡ true → Listed spec index d p
  unfolding covered_at covered_in covered_by
  covered_lies e =
      let l = first-lt (covered_by spec index d p) (minishard_count_of spec) e in
      minishard-lies (first (covered_by spec index d p) (minishard_count_of spec)) l (first_holds (covered_by spec index d p) (minishard_count_of spec) l)

  -- the test holds of a byte exactly where it lies in a range
  pub covered_listed : (covered_at spec index d p ≡ true) ↔ Listed spec index d p
  covered_listed = (covered_lies, λ l. lies_covered l.range l.lies)

  -- and it misses one of the data exactly where that is unlisted
  pub missed-unlisted : p < length d → (covered_at spec index d p ≡ false) ↔ Unlisted spec index d p
  missed-unlisted l = ((λ e. record { within = l; apart = λ r h. true≢false (sym (lies_covered r h) ∙ e) }), λ u. none (covered_at spec index d p) refl u)
    where
      none : (b : Bool) → covered_at spec index d p ≡ b → Unlisted spec index d p → covered_at spec index d p ≡ false
      none true e u = let h = covered_lies e in absurd (u.apart h.range h.lies)
      none false e u = e

-- ---- all bytes

module _ (spec : Sharding) (index d : List ℕ) where
  -- the count is 0 exactly where each byte is listed,
  pub none-counted : (unlisted_bytes spec index d ≡ 0) ↔ ((p : ℕ) → p < length d → Listed spec index d p)
  unfolding unlisted_bytes
  none-counted = (
    (λ e p l. (covered_listed spec index d p).0 (misses-zero (covered_at spec index d) (length d) e p l)),
    (λ h. misses-none (covered_at spec index d) (length d) (λ p l. (covered_listed spec index d p).1 (h p l))),
  )

  -- which is where none is unlisted
  pub none-unlisted : (unlisted_bytes spec index d ≡ 0) ↔ ((p : ℕ) → Unlisted spec index d p → ⊥)
  none-unlisted = (
    (λ e p u. let h = none-counted.0 e p u.within in u.apart h.range h.lies),
    (λ n. none-counted.1 (λ p l. each p l (covered_at spec index d p) refl n)),
  )
    where
      each : (p : ℕ) → p < length d → (b : Bool) → covered_at spec index d p ≡ b → ((p : ℕ) → Unlisted spec index d p → ⊥) → Listed spec index d p
      each p l true e n = (covered_listed spec index d p).0 e
      each p l false e n = absurd (n p ((missed-unlisted spec index d p l).0 e))
