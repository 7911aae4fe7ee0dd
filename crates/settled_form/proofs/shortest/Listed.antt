-- A settled form has no unlisted byte: its items and minishard indexes stand one after the other.
use Prim.Native.Nat.{ℕ, suc, ◌+◌, ◌-◌, ◌≤◌, ◌<◌}
use mathlib.Core.Path.{◌≡◌, sym}
use mathlib.Core.Logic.{⊎_elim}
use mathlib.Core.List.{List, [], ◌∷◌}
use native.Mathlib.Omega.{arith}
use native.Mathlib.Nat.{not-suc-le-zero}
use lib.ListN.{length, get_or}
use Rattle.endian.specs.Little.{row}
use Rattle.duplicate_ids.proofs.ids.Cases.{le-or-lt}
use Rattle.sharding.specs.declared.Sharding.{Sharding}
use Rattle.sharding.specs.Specification.{minishard_count_of}
use Rattle.shard.specs.index.Index.{entry_start_of, sizes}
use Rattle.shard.specs.Items.{Item}
use Rattle.shard.specs.Sound.{SoundShard}
use Rattle.unlisted.specs.ranges.Ranges.{chunk_range, lead_range, index_range, count_in, chunk_start, lead_in, begin, finish, Has, Listed}
use Rattle.unlisted.specs.ranges.Covered.{file_unlisted}
use Rattle.unlisted.proofs.ranges.Meaning.{none-counted}
use Rattle.settled_form.specs.Form.{chunks_length, part_length_of, parts_from, parts_length, entry_begin, entry_finish, shard_index_from, settled}
use Rattle.settled_form.specs.Content.{form_of, file_form}
use Rattle.settled_form.proofs.Sorting.{member-at}
use Rattle.settled_form.proofs.Measures.{length-parts}
use Rattle.settled_form.proofs.Rows.{no_item, offset}
use Rattle.settled_form.proofs.ReadBack.{Readable, index_back, data_back, place_from, reads-part}
use Rattle.settled_form.proofs.SoundContent.{readable-content}
use Rattle.settled_form.proofs.Demand3.{Short, file-form-length}

-- ---- what stands at a place of the form

-- byte q of a minishard's chunks lies in this item, lead or chunk
record InItem (xs : List Item) (q : ℕ) : Type 0 where
  item : ℕ
  among : item < length xs
  from : offset xs item ≤ q + length (get_or xs item no_item).lead
  before : q < offset xs item + length (get_or xs item no_item).body

item-at : (xs : List Item) (q : ℕ) → q < chunks_length xs → InItem xs q
unfolding offset chunks_length
item-at [] q l = absurd (not-suc-le-zero l)
item-at (x ∷ xs) q l =
    ⊎_elim
    (λ (h : length x.lead + length x.body ≤ q).
    let r = item-at xs (q - (length x.lead + length x.body)) (omega arith) in
    record { item = suc r.item; among = omega (arith, r.among); from = omega (arith, r.from); before = omega (arith, r.before) })
    (λ (h : q < length x.lead + length x.body). record { item = 0; among = omega arith; from = omega arith; before = omega arith })
    (le-or-lt (length x.lead + length x.body) q)

-- byte q lies in this minishard, of those from the place p on
record InPart (p : ℕ) (c : List (List Item)) (q : ℕ) : Type 0 where
  minishard : ℕ
  among : minishard < length c
  from : place_from p c minishard ≤ q
  before : q < place_from p c minishard + part_length_of (get_or c minishard [])

part_at : (p : ℕ) (c : List (List Item)) (q : ℕ) → p ≤ q → q < p + parts_length c → InPart p c q
unfolding place_from parts_length
part_at p [] q h l = absurd (omega arith)
part_at p (xs ∷ c) q h l =
    ⊎_elim
    (λ (k : p + part_length_of xs ≤ q).
    let r = part_at (p + part_length_of xs) c q k (omega arith) in
    record { minishard = suc r.minishard; among = omega (arith, r.among); from = r.from; before = r.before })
    (λ (k : q < p + part_length_of xs). record { minishard = 0; among = omega arith; from = h; before = k })
    (le-or-lt (p + part_length_of xs) q)

-- behind the chunks stands the minishard index
entry_at : (p q : ℕ) (xs : List Item) → p + chunks_length xs ≤ q → q < p + part_length_of xs → (entry_begin p xs ≤ q) × (q < entry_finish p xs)
unfolding entry_begin entry_finish chunks_length part_length_of
entry_at p q [] h k = absurd (omega arith)
entry_at p q (x ∷ xs) h k = (h, k)

-- ---- each byte is listed

module _ {spec : Sharding} {c : List (List Item)} (good : Readable spec c) (q : ℕ) where
  abbrev index : List ℕ
  index = row (shard_index_from 0 c)

  abbrev d : List ℕ
  d = parts_from 0 c

  module _ (m : ℕ) (l : m < length c) where
    abbrev xs : List Item
    xs = get_or c m []

    item-listed : InItem xs (q - place_from 0 c m) → place_from 0 c m ≤ q → Listed spec index d q
    unfolding Has begin finish
    item-listed r k =
        let i = r.item in
        let t = reads-part good m l in
        let u = t.the_items i r.among in
        let has : (m < minishard_count_of spec) × (i < count_in index m) = (omega (arith, good.count), omega (arith, t.the_count, r.among)) in
        let start : chunk_start index d m i ≡ place_from 0 c m + offset xs i = rw t.the_count u.the_start in
        let size : sizes d (entry_start_of index m) (count_in index m) i ≡ length (get_or xs i no_item).body = rw t.the_count u.the_size in
        let lead : lead_in spec index d m i ≡ length (get_or xs i no_item).lead =
        rw (t.the_count, u.the_body) (sym ((good.each m l).led (get_or xs i no_item) (member-at no_item xs i r.among))) in
        ⊎_elim
        (λ (h : chunk_start index d m i ≤ q). record { range = chunk_range m i; lies = record { has = has; from = h; before = omega (arith, r.before) } })
        (λ (h : q < chunk_start index d m i). record { range = lead_range m i; lies = record { has = has; from = omega (arith, r.from); before = h } })
        (le-or-lt (chunk_start index d m i) q)

    index_listed : place_from 0 c m + chunks_length xs ≤ q → q < place_from 0 c m + part_length_of xs → Listed spec index d q
    unfolding Has begin finish
    index_listed h k =
        let t = reads-part good m l in
        let e = entry_at (place_from 0 c m) q xs h k in
        record { range = index_range m; lies = record { has = omega (arith, good.count); from = omega (arith, t.the_start, e.0); before = omega (arith, t.the_end, e.1) } }

  part-listed : InPart 0 c q → Listed spec index d q
  part-listed r =
      let m = r.minishard in
      ⊎_elim
      (λ (h : place_from 0 c m + chunks_length (get_or c m []) ≤ q). index_listed m r.among h r.before)
      (λ (h : q < place_from 0 c m + chunks_length (get_or c m [])). item-listed m r.among (item-at (get_or c m []) (q - place_from 0 c m) (omega (arith, r.from))) r.from)
      (le-or-lt (place_from 0 c m + chunks_length (get_or c m [])) q)

  byte_listed : q < length d → Listed spec index d q
  byte_listed l = part-listed (part_at 0 c q (omega arith) (omega (arith, length-parts 0 c)))

settled-listed : {spec : Sharding} {c : List (List Item)} → Readable spec c → file_unlisted spec (settled c) ≡ 0
settled-listed {spec} {c} good =
    rw (index_back spec c good.count, data_back spec c good.count) ((none-counted spec (row (shard_index_from 0 c)) (parts_from 0 c)).1 (λ q l. byte_listed good q l))

-- of a sound shard, where it is at most 1 GiB long
pub form-listed : {spec : Sharding} {shard : ℕ} {a : List ℕ} → SoundShard spec shard a → Short spec a → file_unlisted spec (file_form spec a) ≡ 0
unfolding form_of
form-listed {spec} {shard} {a} sound short = settled-listed (readable-content sound (omega (arith, file-form-length spec a)))
