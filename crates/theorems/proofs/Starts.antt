-- The start steps of a settled form, of both kinds: the lead of each chunk, and for the first the minishard's place.
use Prim.Native.Nat.{ℕ, zero, suc, ◌+◌, ◌*◌, ◌≤◌, ◌<◌}
use mathlib.Core.Path.{◌≡◌, refl, ap, ◌∙◌}
use mathlib.Core.Bool.{Bool, true, false}
use mathlib.Core.List.{List, [], ◌∷◌}
use native.Mathlib.Nat.{not-suc-le-zero}
use native.Mathlib.Omega.{arith}
use lib.Dec.{eqb}
use lib.ListN.{length, get_or, take}
use lib.Seq.{take-length}
use borrow.Author.Tests.{ne_eqb}
use Rattle.refusal.specs.Choice.{pick}
use Rattle.endian.specs.Little.{row}
use Rattle.endian.specs.Place.{Holds}
use Rattle.endian.proofs.Little.{length-row}
use Rattle.endian.proofs.Holds.{holds-left, holds_right, holds_move, holds_row}
use Rattle.sharding.specs.declared.Sharding.{Sharding}
use Rattle.sharding.specs.Specification.{minishard_count_of}
use Rattle.shard.specs.index.Index.{entry_start_of, start_steps, most_shard_bytes}
use Rattle.shard.specs.Items.{Item, lead_length_of}
use Rattle.shard.specs.Sound.{SoundShard}
use Rattle.settled_form.specs.Form.{chunks_of, chunks_length, id_row, start_row, size_row, index_of, part_of, part_length_of, parts_from, parts_length, entry_begin, shard_index_from, settled, settled_length}
use Rattle.settled_form.specs.Content.{file_content, form_of, file_form}
use Rattle.settled_form.proofs.Sorting.{member-at}
use Rattle.settled_form.proofs.Measures.{length-chunks, length_ids, length-starts, length_part}
use Rattle.settled_form.proofs.Rows.{no_item, fit-starts}
use Rattle.settled_form.proofs.ReadBack.{Readable, index_back, data_back, place_from, place-bound, reads-part}
use Rattle.settled_form.proofs.SoundContent.{readable-content}
use Rattle.settled_form.proofs.Demand3.{file-form-length}
use Rattle.theorems.specs.Orders.{entries_in, start_step_in, chunk_in, place_in}

-- ---- the rows

start_of : (p : ℕ) (xs : List Item) (i : ℕ) → i < length xs → get_or (start_row p xs) i 0 ≡ pick (eqb i 0) p 0 + length (get_or xs i no_item).lead
unfolding start_row
start_of p [] i l = absurd (not-suc-le-zero l)
start_of p (x ∷ xs) zero l = refl
start_of p (x ∷ xs) (suc i) l =
    rw (ne_eqb (suc i) 0 (λ z. omega arith)) (start_of 0 xs i (omega arith) ∙ ap (λ (k : ℕ). k + length (get_or xs i no_item).lead) (none (eqb i 0)))
  where
    none : (b : Bool) → ◌≡◌ {A = ℕ} (pick b 0 0) 0
    none true = refl
    none false = refl

place_is : (p : ℕ) (c : List (List Item)) (m : ℕ) → m < length c → place_from p c m ≡ p + parts_length (take m c)
unfolding place_from parts_length
place_is p [] m l = absurd (not-suc-le-zero l)
place_is p (xs ∷ c) zero l = omega arith
place_is p (xs ∷ c) (suc m) l = let h = place_is (p + part_length_of xs) c m (omega arith) in omega arith

begin_of : (p : ℕ) (xs : List Item) (i : ℕ) → i < length xs → entry_begin p xs ≡ p + chunks_length xs
unfolding entry_begin
begin_of p [] i l = absurd (not-suc-le-zero l)
begin_of p (x ∷ xs) i l = refl

holds-part : {d : List ℕ} (p : ℕ) (c : List (List Item)) (m : ℕ) → Holds d p (parts_from p c) → m < length c → Holds d (place_from p c m) (part_of (place_from p c m) (get_or c m []))
unfolding parts_from place_from
holds-part p [] m h l = absurd (not-suc-le-zero l)
holds-part p (xs ∷ c) zero h l = holds-left (parts_from (p + part_length_of xs) c) h
holds-part p (xs ∷ c) (suc m) h l = holds-part (p + part_length_of xs) c m (holds_move (holds_right (part_of p xs) h) (omega (arith, length_part p xs))) (omega arith)

holds-starts : {d : List ℕ} (p : ℕ) (xs : List Item) → Holds d p (part_of p xs) → Holds d (p + chunks_length xs + 8 * length xs) (row (start_row p xs))
unfolding part_of index_of
holds-starts p xs h =
    let g = rw length-chunks at (holds_right (chunks_of xs) h) in
    holds-left (row (size_row xs)) (simp (length-row, length_ids) at (holds_right (row (id_row 0 xs)) g))

-- ---- the form

module _ (spec : Sharding) (c : List (List Item)) (good : Readable spec c) (m i : ℕ) (l : m < length c) where
  abbrev xs : List Item
  xs = get_or c m []

  abbrev p : ℕ
  p = place_from 0 c m

  abbrev index : List ℕ
  index = row (shard_index_from 0 c)

  abbrev d : List ℕ
  d = parts_from 0 c

  step-read : i < length xs → start_steps d (p + chunks_length xs) (length xs) i ≡ pick (eqb i 0) p 0 + length (get_or xs i no_item).lead
  unfolding settled_length part_length_of
  step-read k =
      holds_row (start_row p xs) i (fit-starts p xs (omega (arith, place-bound 0 c m l, good.short)))
      (holds-starts p xs (holds-part 0 c m (record { here = take-length d }) l)) (omega (arith, length-starts p xs))
      ∙ start_of p xs i k

  form-start : i < entries_in spec (settled c) m → start_step_in spec (settled c) m i ≡ pick (eqb i 0) (parts_length (take m c)) 0 + lead_length_of spec (chunk_in spec (settled c) m i)
  form-start k0 =
      let r = reads-part good m l in
      let k : i < length xs = omega (arith, rw (index_back spec c good.count) at k0, r.the_count) in
      let s : entry_start_of index m ≡ p + chunks_length xs = r.the_start ∙ begin_of p xs i k in
      let led = (good.each m l).led (get_or xs i no_item) (member-at no_item xs i k) in
      let place : p ≡ parts_length (take m c) = omega (arith, place_is 0 c m l) in
      rw (index_back spec c good.count, data_back spec c good.count, r.the_count, (r.the_items i k).the_body, ← led, ← place, s) (step-read k)

pub start-steps : (spec : Sharding) (shard : ℕ) (a : List ℕ) (m i : ℕ) → SoundShard spec shard a → length (file_form spec a) ≤ most_shard_bytes → m < minishard_count_of spec → i < entries_in spec (file_form spec a) m
    → start_step_in spec (file_form spec a) m i ≡ pick (eqb i 0) (place_in spec a m) 0 + lead_length_of spec (chunk_in spec (file_form spec a) m i)
unfolding form_of
start-steps spec shard a m i sound short l k =
    let good = readable-content sound (omega (arith, file-form-length spec a)) in
    form-start spec (file_content spec a) good m i (omega (arith, good.count)) k
