-- The settled form of what a sound shard may list is a sound shard; that of a sound shard has the content of its original.
use Prim.Native.Nat.{ℕ, ◌≤◌, ◌<◌}
use mathlib.Core.Path.{◌≡◌}
use mathlib.Core.Bool.{true}
use mathlib.Core.Logic.{inr}
use mathlib.Core.List.{List, []}
use native.Mathlib.Omega.{arith}
use lib.ListN.{length, get_or}
use Rattle.endian.specs.Little.{row}
use Rattle.sharding.specs.declared.Sharding.{Sharding}
use Rattle.sharding.specs.Specification.{allowed, minishard_count_of, shard_count_of}
use Rattle.shard.specs.index.Index.{entry_start_of, start_steps, sizes, start_at, most_shard_bytes}
use Rattle.shard.specs.Sound.{SoundMinishard, SoundShard}
use Rattle.shard.specs.Items.{Item, Led}
use Rattle.shard.proofs.Leads.{led-fragments}
use Rattle.settled_form.specs.Form.{part_length_of, parts_from, shard_index_from, settled, settled_length}
use Rattle.settled_form.specs.Sorted.{Member}
use Rattle.settled_form.specs.Content.{id_of, form_of, file_content, file_form, file_form_length}
use Rattle.settled_form.proofs.Sorting.{member-at, rising-later}
use Rattle.settled_form.proofs.Measures.{length-settled, length-parts}
use Rattle.settled_form.proofs.Rows.{no_item, lead-offset, offset-size}
use Rattle.settled_form.proofs.ReadBack.{Readable, index_back, data_back, place_from, place-bound, entry-span, finish-most, reads-part, content_back}
use Rattle.settled_form.proofs.SoundContent.{Listed, listed-content, readable-content}

-- where a shard is read as such items, each lead lies within the data
part-led : {spec : Sharding} {shard : ℕ} {c : List (List Item)} (good : Readable spec c) (m : ℕ) → m < length c → Listed spec shard m (get_or c m []) → (i : ℕ) → i < length (get_or c m [])
    → Led spec (parts_from 0 c) (start_at (start_steps (parts_from 0 c) (entry_start_of (row (shard_index_from 0 c)) m) (length (get_or c m []))) (sizes (parts_from 0 c) (entry_start_of (row (shard_index_from 0 c)) m) (length (get_or c m []))) i) (sizes (parts_from 0 c) (entry_start_of (row (shard_index_from 0 c)) m) (length (get_or c m [])) i)
part-led {spec} {c = c} good m l g i h =
    let xs = get_or c m [] in
    let x = get_or xs i no_item in
    let t = (reads-part good m l).the_items i h in
    let e = (good.each m l).led x (member-at no_item xs i h) in
    record {
      told = λ k. rw t.the_body (g.manifests k x (member-at no_item xs i h));
      before = rw t.the_body (omega (arith, t.the_start, e, lead-offset xs i h));
    }

-- a minishard that is read as such items, and ends within the file, is sound
sound-part : {spec : Sharding} {shard : ℕ} {c : List (List Item)} (good : Readable spec c) (m : ℕ) → m < length c → Listed spec shard m (get_or c m [])
    → SoundMinishard spec shard (row (shard_index_from 0 c)) (parts_from 0 c) m
unfolding part_length_of
sound-part {c = c} good m l g =
    let xs = get_or c m [] in
    let r = reads-part good m l in
    let span = entry-span (place_from 0 c m) xs in
    let bound = place-bound 0 c m l in
    let n = length-parts 0 c in
    let among : (i : ℕ) → i < length xs → Member (get_or xs i no_item) xs = member-at no_item xs in
    record {
      ordered = omega (arith, r.the_start, r.the_end);
      within = inr (omega (arith, r.the_end, finish-most (place_from 0 c m) xs));
      whole = omega (arith, r.the_start, r.the_end);
      distinct = λ i j o k e.
          let h : j < length xs = omega (arith, r.the_count) in
          let up = rising-later id_of no_item xs i j o h (good.each m l).rising in
          omega (arith, (r.the_items i (omega arith)).the_id, (r.the_items j h).the_id);
      ours = λ i k.
          let h : i < length xs = omega (arith, r.the_count) in
          rw (r.the_items i h).the_id (g.ours (get_or xs i no_item) (among i h));
      here = λ i k.
          let h : i < length xs = omega (arith, r.the_count) in
          rw (r.the_items i h).the_id (g.here (get_or xs i no_item) (among i h));
      inside = λ i k.
          let h : i < length xs = omega (arith, r.the_count) in
          let t = r.the_items i h in
          rw r.the_count (omega (arith, t.the_start, t.the_size, offset-size xs i h));
      manifests = λ mesh i k. rw r.the_count ((part-led good m l g i (omega (arith, r.the_count))).told mesh);
      fragments = λ mesh i k. rw r.the_count (led-fragments (part-led good m l g i (omega (arith, r.the_count))) mesh);
    }

-- and so is a shard in the settled form of a content whose minishards are such
pub settled-sound : {spec : Sharding} {shard : ℕ} {c : List (List Item)} → allowed spec ≡ true → shard < shard_count_of spec → Readable spec c
    → ((m : ℕ) → m < minishard_count_of spec → Listed spec shard m (get_or c m [])) → SoundShard spec shard (settled c)
unfolding settled_length
settled-sound {spec} {shard} {c} allow number good each =
    let n = length-settled c in
    record {
      permitted = allow;
      numbered = number;
      held = omega (arith, good.count);
      short = omega (arith, good.short);
      each = λ m l. rw (index_back spec c good.count, data_back spec c good.count) (sound-part good m (omega (arith, good.count)) (each m l));
    }

module _ {spec : Sharding} {shard : ℕ} {a : List ℕ} (sound : SoundShard spec shard a) (short : file_form_length spec a ≤ most_shard_bytes) where
  pub form-sound : SoundShard spec shard (file_form spec a)
  unfolding form_of
  form-sound = settled-sound sound.permitted sound.numbered (readable-content sound short) (listed-content sound)

  -- the form's content is its original's
  pub form-content : file_content spec (file_form spec a) ≡ file_content spec a
  unfolding form_of
  form-content = content_back (readable-content sound short)
