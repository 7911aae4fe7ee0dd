-- A sound shard, measured by its ranges: behind the shard index, its bytes and those that ranges share are together as many as its settled form's and its
-- unlisted bytes.
use Prim.Native.Nat.{ℕ, zero, suc, ◌+◌, ◌-◌, ◌<◌}
use mathlib.Core.Path.{◌≡◌, refl, ap}
use mathlib.Core.Logic.{⊎_elim, inr}
use mathlib.Core.List.{List}
use native.Mathlib.Omega.{arith}
use lib.ListN.{length}
use Rattle.endian.specs.Range.{sum_to, any_below}
use Rattle.bitmap.specs.Positions.{misses}
use Rattle.bitmap.proofs.Counts.{sum_head, misses-same}
use Rattle.sharding.specs.declared.Sharding.{Sharding}
use Rattle.sharding.specs.Specification.{minishard_count_of}
use Rattle.shard.specs.index.Index.{entry_start_of, entry_end_of, id_steps, sizes, id_at}
use Rattle.shard.specs.Items.{Item, item_at}
use Rattle.shard.specs.Sound.{SoundMinishard}
use Rattle.shard.proofs.Leads.{sound-led}
use Rattle.shard.proofs.Items.{item-size, item-lead}
use Rattle.unlisted.specs.ranges.Ranges.{Range, chunk_range, lead_range, index_range, count_in, chunk_start, chunk_end, begin, finish, Has, LiesIn}
use Rattle.unlisted.specs.ranges.Covered.{item_start, in_item, covered_by, covered_in, covered_at, unlisted_bytes}
use Rattle.settled_form.specs.Form.{chunks_length, part_length_of, parts_length}
use Rattle.settled_form.specs.Content.{items_from, items_at, items_of, content_from, content_of}
use Rattle.settled_form.proofs.Measures.{length_items, part_by_id}
use Rattle.settled_form.proofs.shortest.Overlaps.{misses-any, misses-within}
use Rattle.settled_form.proofs.shortest.Slots.{in_slot, overlap_in, overlap, covered_slots}

-- ---- the lengths of the form as sums

abbrev item_length : Item → ℕ
item_length x = length x.lead + length x.body

module _ (spec : Sharding) (d : List ℕ) (s n : ℕ) where
  one_more : (i k : ℕ) → chunks_length (items_from spec d s n i (suc k)) ≡ chunks_length (items_from spec d s n i k) + item_length (item_at spec d s n (i + k))
  unfolding chunks_length items_from
  one_more i zero = let e : item_at spec d s n (i + 0) ≡ item_at spec d s n i = ap (item_at spec d s n) (omega arith) in rw e (omega arith)
  one_more i (suc k) =
      let e : item_at spec d s n (i + suc k) ≡ item_at spec d s n (suc i + k) = ap (item_at spec d s n) (omega arith) in
      rw e (omega (arith, one_more (suc i) k))

  chunks-sum : (k : ℕ) → chunks_length (items_from spec d s n 0 k) ≡ sum_to (λ i. item_length (item_at spec d s n i)) k
  unfolding chunks_length items_from sum_to
  chunks-sum zero = refl
  chunks-sum (suc k) =
      let e : item_at spec d s n (0 + k) ≡ item_at spec d s n k = ap (item_at spec d s n) (omega arith) in
      let h = rw e at (one_more 0 k) in
      omega (arith, chunks-sum k, h)

module _ (spec : Sharding) (index d : List ℕ) where
  part-more : (m k : ℕ) → parts_length (content_from spec index d m (suc k)) ≡ parts_length (content_from spec index d m k) + part_length_of (items_of spec index d (m + k))
  unfolding parts_length content_from
  part-more m zero =
      let e : items_of spec index d (m + 0) ≡ items_of spec index d m = ap (λ (j : ℕ). items_of spec index d j) (omega arith) in
      rw e (omega (arith, part_by_id (items_of spec index d m)))
  part-more m (suc k) =
      let e : items_of spec index d (m + suc k) ≡ items_of spec index d (suc m + k) = ap (λ (j : ℕ). items_of spec index d j) (omega arith) in
      rw e (omega (arith, part-more (suc m) k))

  parts-sum : (k : ℕ) → parts_length (content_from spec index d 0 k) ≡ sum_to (λ m. part_length_of (items_of spec index d m)) k
  unfolding parts_length content_from sum_to
  parts-sum zero = refl
  parts-sum (suc k) =
      let e : items_of spec index d (0 + k) ≡ items_of spec index d k = ap (λ (j : ℕ). items_of spec index d j) (omega arith) in
      let h = rw e at (part-more 0 k) in
      omega (arith, parts-sum k, h)

-- ---- a sound minishard

-- how many bytes a slot has
unfoldable slot_size : Sharding → List ℕ → List ℕ → ℕ → ℕ → ℕ
slot_size spec index d m zero = entry_end_of index m - entry_start_of index m
slot_size spec index d m (suc i) = item_length (item_at spec d (entry_start_of index m) (count_in index m) i)

module _ {spec : Sharding} {shard : ℕ} (index d : List ℕ) (m : ℕ) (sound : SoundMinishard spec shard index d m) where
  slot_misses : (j : ℕ) → j < suc (count_in index m) → misses (λ p. in_slot spec index d m p j) (length d) + slot_size spec index d m j ≡ length d + 0
  unfolding in_slot slot_size in_item item_start item_at
  slot_misses zero l = omega (arith, misses-within (entry_start_of index m) (entry_end_of index m) (length d) sound.ordered sound.within)
  slot_misses (suc i) l =
      let k : i < count_in index m = omega arith in
      let id = id_at (id_steps d (entry_start_of index m)) i in
      let size = sizes d (entry_start_of index m) (count_in index m) i in
      let before = (sound-led sound i k).before in
      let a = item-lead spec d id (chunk_start index d m i) size (sound.inside i k) before in
      let b = item-size spec d id (chunk_start index d m i) size (sound.inside i k) in
      omega (arith, misses-within (item_start spec d (entry_start_of index m) (count_in index m) i) (chunk_end index d m i) (length d) (omega arith) (inr (sound.inside i k)))

  slots_sum : sum_to (slot_size spec index d m) (suc (count_in index m)) ≡ part_length_of (items_of spec index d m)
  unfolding slot_size part_length_of items_at
  slots_sum =
      let n = count_in index m in
      let a = sum_head (slot_size spec index d m) n in
      let b = chunks-sum spec d (entry_start_of index m) n n in
      omega (arith, sound.ordered, sound.whole, length_items spec d (entry_start_of index m) n)

  part-misses : misses (λ p. covered_by spec index d p m) (length d) + part_length_of (items_of spec index d m) ≡ length d + overlap_in spec index d m
  unfolding overlap_in
  part-misses =
      let n = suc (count_in index m) in
      let a = misses-any (in_slot spec index d m) (slot_size spec index d m) (λ j. 0) (length d) n slot_misses in
      let b = misses-same (λ p. covered_by spec index d p m) (λ p. any_below n (in_slot spec index d m p)) (length d) (λ p l. covered_slots spec index d m p) in
      omega (arith, slots_sum)

-- ---- a sound shard

module _ {spec : Sharding} {shard : ℕ} (index d : List ℕ) (each : (m : ℕ) → m < minishard_count_of spec → SoundMinishard spec shard index d m) where
  pub parts-misses : unlisted_bytes spec index d + parts_length (content_of spec index d) ≡ length d + overlap spec index d
  unfolding unlisted_bytes covered_at covered_in overlap content_of
  parts-misses =
      let k = minishard_count_of spec in
      let size : ℕ → ℕ = λ m. part_length_of (items_of spec index d m) in
      let a = misses-any (covered_by spec index d) size (overlap_in spec index d) (length d) k (λ m l. part-misses index d m (each m l)) in
      omega (arith, parts-sum spec index d k)

  -- what lies in a range lies in the data
  pub range_inside : (r : Range) (p : ℕ) → LiesIn spec index d r p → p < length d
  unfolding Has begin finish
  range_inside (chunk_range m i) p h = omega (arith, h.before, (each m h.has.0).inside i h.has.1)
  range_inside (lead_range m i) p h = omega (arith, h.before, (each m h.has.0).inside i h.has.1)
  range_inside (index_range m) p h = ⊎_elim (λ e. absurd (omega (arith, h.from, h.before))) (λ l. omega (arith, h.before)) (each m h.has).within
