-- A whole settled form: reading it gives back the content that it was made from.
use Prim.Native.Nat.{ℕ, zero, suc, ◌+◌, ◌*◌, ◌^◌, ◌≤◌, ◌<◌}
use mathlib.Core.Path.{◌≡◌, refl, sym, ap, ◌∙◌}
use mathlib.Core.List.{List, [], ◌∷◌}
use native.Mathlib.Omega.{arith}
use native.Mathlib.Nat.{not-suc-le-zero}
use lib.ListN.{length, get_or}
use lib.Seq.{take-length, take_at, drop_at}
use Rattle.endian.specs.Little.{le_at, row, Fit}
use Rattle.endian.specs.Place.{Holds}
use Rattle.endian.proofs.Holds.{holds-left, holds_right, holds_move, holds_row}
use Rattle.sharding.specs.declared.Sharding.{Sharding}
use Rattle.sharding.specs.Specification.{minishard_count_of}
use Rattle.shard.specs.index.Index.{entry_start_of, entry_end_of, entry_count, chunk_at, most_shard_bytes}
use Rattle.shard.specs.File.{index_length_of, index_part, data_part}
use Rattle.shard.specs.Items.{Item, lead_length_of, item_of, item_at}
use Rattle.settled_form.specs.Form.{chunks_length, part_of, part_length_of, parts_from, parts_length, entry_begin, entry_finish, shard_index_from, settled, settled_length}
use Rattle.settled_form.specs.Sorted.{Rising}
use Rattle.settled_form.specs.Content.{items_from, items_at, items_of, id_of, by_id, content_from, content_of, file_content}
use Rattle.settled_form.proofs.Sorting.{sort_rising, member-at}
use Rattle.settled_form.proofs.Measures.{length_part, length-entries, length-shard-index}
use Rattle.settled_form.proofs.Rows.{no_item, InForm}
use Rattle.settled_form.proofs.Minishard.{ReadsItem, reads}

-- ---- contents

-- what the settled form of a shard of this specification, at most 1 GiB long, is made from
pub record Readable (spec : Sharding) (c : List (List Item)) : Type 0 where
  pub count : length c ≡ minishard_count_of spec
  pub each : (m : ℕ) → m < length c → InForm spec (get_or c m [])
  pub short : settled_length c ≤ most_shard_bytes

-- ---- the two parts of the file

module _ (spec : Sharding) (c : List (List Item)) (n : length c ≡ minishard_count_of spec) where
  pub index_back : index_part spec (settled c) ≡ row (shard_index_from 0 c)
  unfolding settled
  index_back = take_at (row (shard_index_from 0 c)) (parts_from 0 c) (index_length_of spec) (omega (arith, length-shard-index 0 c))

  pub data_back : data_part spec (settled c) ≡ parts_from 0 c
  unfolding settled
  data_back = drop_at (row (shard_index_from 0 c)) (parts_from 0 c) (index_length_of spec) (omega (arith, length-shard-index 0 c))

-- ---- the place of a minishard

unfoldable pub place_from : ℕ → List (List Item) → ℕ → ℕ
place_from p c zero = p
place_from p [] (suc m) = p
place_from p (xs ∷ c) (suc m) = place_from (p + part_length_of xs) c m

holds-part : {d : List ℕ} (p : ℕ) (c : List (List Item)) (m : ℕ) → Holds d p (parts_from p c) → m < length c
    → Holds d (place_from p c m) (part_of (place_from p c m) (get_or c m []))
unfolding parts_from place_from
holds-part p [] m h l = absurd (not-suc-le-zero l)
holds-part p (xs ∷ c) zero h l = holds-left (parts_from (p + part_length_of xs) c) h
holds-part p (xs ∷ c) (suc m) h l =
    holds-part (p + part_length_of xs) c m (holds_move (holds_right (part_of p xs) h) (omega (arith, length_part p xs))) (omega arith)

pub place-bound : (p : ℕ) (c : List (List Item)) (m : ℕ) → m < length c → place_from p c m + part_length_of (get_or c m []) ≤ p + parts_length c
unfolding place_from parts_length
place-bound p [] m l = absurd (not-suc-le-zero l)
place-bound p (xs ∷ c) zero l = omega arith
place-bound p (xs ∷ c) (suc m) l = let h = place-bound (p + part_length_of xs) c m (omega arith) in omega arith

-- ---- the entries of the shard index

pub entry-span : (p : ℕ) (xs : List Item) → entry_finish p xs ≡ entry_begin p xs + 24 * length xs
unfolding entry_begin entry_finish part_length_of
entry-span p [] = refl
entry-span p (x ∷ xs) = omega arith

pub finish-most : (p : ℕ) (xs : List Item) → entry_finish p xs ≤ p + part_length_of xs
unfolding entry_finish
finish-most p [] = omega arith
finish-most p (x ∷ xs) = omega arith

fit-entries : (p : ℕ) (c : List (List Item)) → p + parts_length c < 2 ^ 64 → Fit (shard_index_from p c)
unfolding shard_index_from parts_length
fit-entries p [] h = tt
fit-entries p (xs ∷ c) h =
    let e = entry-span p xs in
    let f = finish-most p xs in
    (omega arith, (omega arith, fit-entries (p + part_length_of xs) c (omega arith)))

entries_at : (p : ℕ) (c : List (List Item)) (m : ℕ) → m < length c
    → (get_or (shard_index_from p c) (2 * m) 0 ≡ entry_begin (place_from p c m) (get_or c m []))
    × (get_or (shard_index_from p c) (2 * m + 1) 0 ≡ entry_finish (place_from p c m) (get_or c m []))
unfolding shard_index_from place_from
entries_at p [] m l = absurd (not-suc-le-zero l)
entries_at p (xs ∷ c) zero l = (refl, refl)
entries_at p (xs ∷ c) (suc m) l =
    let h = entries_at (p + part_length_of xs) c m (omega arith) in
    let e : 2 * suc m ≡ suc (suc (2 * m)) = omega arith in
    let f : 2 * suc m + 1 ≡ suc (suc (2 * m + 1)) = omega arith in
    (rw e h.0, rw f h.1)

-- of a minishard that has an item
begin_of : (p : ℕ) (xs : List Item) (i : ℕ) → i < length xs → entry_begin p xs ≡ p + chunks_length xs
unfolding entry_begin
begin_of p [] i l = absurd (not-suc-le-zero l)
begin_of p (x ∷ xs) i l = refl

-- ---- what is read, over leads too

-- entry m, and each item of minishard m, are as c has them
pub record ReadsPart (index d : List ℕ) (c : List (List Item)) (m : ℕ) : Type 0 where
  pub the_start : entry_start_of index m ≡ entry_begin (place_from 0 c m) (get_or c m [])
  pub the_end : entry_end_of index m ≡ entry_finish (place_from 0 c m) (get_or c m [])
  pub the_count : entry_count (entry_start_of index m) (entry_end_of index m) ≡ length (get_or c m [])
  pub the_items : (i : ℕ) → i < length (get_or c m []) → ReadsItem d (place_from 0 c m) (entry_start_of index m) (get_or c m []) i

module _ {spec : Sharding} {c : List (List Item)} (good : Readable spec c) (m : ℕ) (l : m < length c) where
  abbrev index : List ℕ
  index = row (shard_index_from 0 c)

  abbrev d : List ℕ
  d = parts_from 0 c

  bound : 0 + parts_length c < 2 ^ 64
  unfolding settled_length
  bound = omega (arith, good.short)

  -- number i of the shard index
  reads-number : (i : ℕ) → i < 2 * length c → le_at 8 index (8 * i) ≡ get_or (shard_index_from 0 c) i 0
  reads-number i k =
      ap (le_at 8 index) (omega arith)
      ∙ holds_row {d = index} {p = 0} (shard_index_from 0 c) i (fit-entries 0 c bound) (record { here = take-length index }) (omega (arith, length-entries 0 c))

  reads-start : entry_start_of index m ≡ entry_begin (place_from 0 c m) (get_or c m [])
  reads-start = ap (le_at 8 index) (omega arith) ∙ reads-number (2 * m) (omega arith) ∙ (entries_at 0 c m l).0

  reads_end : entry_end_of index m ≡ entry_finish (place_from 0 c m) (get_or c m [])
  reads_end = ap (le_at 8 index) (omega arith) ∙ reads-number (2 * m + 1) (omega arith) ∙ (entries_at 0 c m l).1

  part_held : Holds (parts_from 0 c) (place_from 0 c m) (part_of (place_from 0 c m) (get_or c m []))
  part_held = holds-part 0 c m (record { here = take-length d }) l

  reads_items : (i : ℕ) → i < length (get_or c m []) → ReadsItem d (place_from 0 c m) (entry_start_of index m) (get_or c m []) i
  unfolding part_length_of
  reads_items i k =
      rw (reads-start, begin_of (place_from 0 c m) (get_or c m []) i k)
      (reads d (place_from 0 c m) (get_or c m []) part_held (good.each m l)
      (omega (arith, place-bound 0 c m l, bound)) i k)

  pub reads-part : ReadsPart (row (shard_index_from 0 c)) (parts_from 0 c) c m
  reads-part = record {
    the_start = reads-start;
    the_end = reads_end;
    the_count = omega (arith, reads-start, reads_end, entry-span (place_from 0 c m) (get_or c m []));
    the_items = reads_items;
  }

-- ---- the content that is read

-- items that agree with those read at each place are those read
items_are : (spec : Sharding) (d : List ℕ) (s n i : ℕ) (xs : List Item) → ((j : ℕ) → j < length xs → item_at spec d s n (i + j) ≡ get_or xs j no_item)
    → items_from spec d s n i (length xs) ≡ xs
unfolding items_from
items_are spec d s n i [] h = refl
items_are spec d s n i (x ∷ xs) h =
    let e : item_at spec d s n i ≡ x = ap (item_at spec d s n) (omega arith) ∙ h 0 (omega arith) in
    let f = items_are spec d s n (suc i) xs (λ j k. ap (item_at spec d s n) (omega arith) ∙ h (suc j) (omega arith)) in
    cc

item-eq : {x y : Item} → x.id ≡ y.id → x.lead ≡ y.lead → x.body ≡ y.body → x ≡ y
item-eq p q r = λ i. record { id = p i; lead = q i; body = r i }

items_back : (spec : Sharding) (index d : List ℕ) (c : List (List Item)) (m : ℕ) → InForm spec (get_or c m []) → ReadsPart index d c m → items_of spec index d m ≡ get_or c m []
unfolding items_at item_at item_of
items_back spec index d c m p r =
    let s = entry_start_of index m in
    let xs = get_or c m [] in
    rw r.the_count
    (items_are spec d s (length xs) 0 xs λ j k.
    let t = r.the_items j k in
    let e : lead_length_of spec (chunk_at d s (length xs) j) ≡ length (get_or xs j no_item).lead = ap (lead_length_of spec) t.the_body ∙ sym (p.led (get_or xs j no_item) (member-at no_item xs j k)) in
    ap (item_at spec d s (length xs)) (omega arith) ∙ item-eq t.the_id (rw e t.the_lead) t.the_body)

content-is : (spec : Sharding) (index d : List ℕ) (m : ℕ) (c : List (List Item)) → ((j : ℕ) → j < length c → by_id (items_of spec index d (m + j)) ≡ get_or c j [])
    → content_from spec index d m (length c) ≡ c
unfolding content_from
content-is spec index d m [] h = refl
content-is spec index d m (xs ∷ c) h =
    let e : by_id (items_of spec index d m) ≡ xs = ap (λ (i : ℕ). by_id (items_of spec index d i)) (omega arith) ∙ h 0 (omega arith) in
    let f = content-is spec index d (suc m) c (λ j k. ap (λ (i : ℕ). by_id (items_of spec index d i)) (omega arith) ∙ h (suc j) (omega arith)) in
    cc

-- where ids rise, sorting changes nothing
pub by_id-rising : (xs : List Item) → Rising id_of xs → by_id xs ≡ xs
unfolding by_id
by_id-rising xs r = sort_rising id_of xs r

pub content_back : {spec : Sharding} {c : List (List Item)} → Readable spec c → file_content spec (settled c) ≡ c
unfolding content_of
content_back {spec} {c} good =
    rw (index_back spec c good.count, data_back spec c good.count, ← good.count)
    (content-is spec (row (shard_index_from 0 c)) (parts_from 0 c) 0 c λ j k.
    ap (λ (i : ℕ). by_id (items_of spec (row (shard_index_from 0 c)) (parts_from 0 c) i)) (omega arith)
    ∙ ap by_id (items_back spec (row (shard_index_from 0 c)) (parts_from 0 c) c j (good.each j k) (reads-part good j k))
    ∙ by_id-rising (get_or c j []) (good.each j k).rising)

-- so the settled form determines the content
pub settled_injective : {spec : Sharding} {a b : List (List Item)} → Readable spec a → Readable spec b → settled a ≡ settled b → a ≡ b
settled_injective {spec} f g e = sym (content_back f) ∙ ap (λ (file : List ℕ). file_content spec file) e ∙ content_back g
