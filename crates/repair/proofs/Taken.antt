-- What is taken is what a sound shard may list: its form is sound, and lists it.
use Rattle.std.proofs.Common.{◌≡◌, ℕ, zero, suc, ◌+◌, ◌<◌, ◌≤◌, Bool, true, false, List, [], length, get_or, sym, refl, ap, ◌∙◌, not-suc-le-zero, arith, leb-false}
use Rattle.sharding.specs.declared.Sharding.{Sharding}
use Rattle.sharding.specs.Specification.{allowed, minishard_count_of, no_such_shard}
use Rattle.shard.specs.index.Index.{most_shard_bytes}
use Rattle.shard.specs.Items.{Item}
use Rattle.shard.specs.File.{index_part, data_part}
use Rattle.shard.specs.Sound.{SoundShard}
use Rattle.settled_form.specs.Form.{settled}
use Rattle.settled_form.specs.Content.{id_of, by_id}
use Rattle.settled_form.proofs.Sorting.{sort_mem, rising_sort, distinct_sort}
use Rattle.settled_form.proofs.Measures.{length-settled}
use Rattle.settled_form.proofs.Rows.{InForm}
use Rattle.settled_form.proofs.ReadBack.{Readable, content_back}
use Rattle.settled_form.proofs.SoundContent.{Listed, sound-listed, items_at_lem}
use Rattle.settled_form.proofs.FormSound.{settled-sound}
use Rattle.repair.specs.form.Chosen.{sound_in, listed, chosen, content_by, chosen_content, repaired_form, repaired_length}
use Rattle.repair.specs.form.Choosing.{SoundInOneEach}
use Rattle.repair.proofs.form.OneMinishard.{sound-if, chosen-first, chosen-second}
use Rattle.repair.proofs.form.AllMinishards.{length-content_by}

-- ---- sorted

module _ {spec : Sharding} {shard m : ℕ} {xs : List Item} (g : Listed spec shard m xs) where
  listed-sorted : Listed spec shard m (by_id xs)
  unfolding by_id
  listed-sorted = record {
    distinct = distinct_sort id_of xs g.distinct;
    bounded = λ x h. g.bounded x (sort_mem id_of xs h);
    ours = λ x h. g.ours x (sort_mem id_of xs h);
    here = λ x h. g.here x (sort_mem id_of xs h);
    led = λ x h. g.led x (sort_mem id_of xs h);
    manifests = λ k x h. g.manifests k x (sort_mem id_of xs h);
  }

  listed-form : InForm spec (by_id xs)
  unfolding by_id
  listed-form = record { rising = rising_sort id_of xs g.distinct; bounded = listed-sorted.bounded; led = listed-sorted.led }

-- ---- of a sound minishard, and of the chosen one

pub content-at : (f : ℕ → List Item) (m k j : ℕ) → j < k → get_or (content_by f m k) j [] ≡ f (m + j)
unfolding content_by
content-at f m zero j l = absurd (not-suc-le-zero l)
content-at f m (suc k) zero l = ap f (omega arith)
content-at f m (suc k) (suc j) l = content-at f (suc m) k j (omega arith) ∙ ap f (omega arith)

module _ {spec : Sharding} {shard : ℕ} {ia da ib db : List ℕ} (each : SoundInOneEach spec shard ia da ib db (minishard_count_of spec)) where
  chosen-listed : (m : ℕ) → m < minishard_count_of spec → Listed spec shard m (chosen spec shard ia da ib db m) × InForm spec (chosen spec shard ia da ib db m)
  chosen-listed m l = go (sound_in spec shard ia da m) refl
    where
      go : (b : Bool) → sound_in spec shard ia da m ≡ b → Listed spec shard m (chosen spec shard ia da ib db m) × InForm spec (chosen spec shard ia da ib db m)
      go true e =
          let g = sound-listed (sound-if spec shard ia da m e) in
          rw (chosen-first spec shard ia da ib db m e) (listed-sorted g, listed-form g)
      go false e =
          let g = sound-listed (sound-if spec shard ib db m ((each.each m l).other e)) in
          rw (chosen-second spec shard ia da ib db m e) (listed-sorted g, listed-form g)

  pub chosen_at : (m : ℕ) → m < minishard_count_of spec → get_or (chosen_content spec shard ia da ib db) m [] ≡ chosen spec shard ia da ib db m
  unfolding chosen_content
  chosen_at m l = content-at (chosen spec shard ia da ib db) 0 (minishard_count_of spec) m l ∙ ap (chosen spec shard ia da ib db) (omega arith)

  pub length-chosen : length (chosen_content spec shard ia da ib db) ≡ minishard_count_of spec
  unfolding chosen_content
  length-chosen = length-content_by (chosen spec shard ia da ib db) 0 (minishard_count_of spec)

  module _ (most : repaired_length spec shard ia da ib db ≤ most_shard_bytes) where
    pub chosen-readable : Readable spec (chosen_content spec shard ia da ib db)
    unfolding repaired_length
    chosen-readable =
        let n = length-chosen in
        record {
          count = n;
          each = λ m l. rw (chosen_at m (omega arith)) (chosen-listed m (omega arith)).1;
          short = most;
        }

    pub form-sound : allowed spec ≡ true → no_such_shard spec shard ≡ false → SoundShard spec shard (repaired_form spec shard ia da ib db)
    unfolding repaired_form
    form-sound p q = settled-sound p (leb-false _ _ q) chosen-readable (λ m l. rw (chosen_at m l) (chosen-listed m l).0)

    pub form-lists : (m : ℕ) → m < minishard_count_of spec
        → listed spec (index_part spec (repaired_form spec shard ia da ib db)) (data_part spec (repaired_form spec shard ia da ib db)) m ≡ chosen spec shard ia da ib db m
    unfolding repaired_form
    form-lists m l =
        let W = settled (chosen_content spec shard ia da ib db) in
        sym (items_at_lem spec (index_part spec W) (data_part spec W) m l) ∙ ap (λ (c : List (List Item)). get_or c m []) (content_back chosen-readable) ∙ chosen_at m l

-- ---- the front of the output

pub length_repaired : (spec : Sharding) (shard : ℕ) (ia da ib db : List ℕ) → length (repaired_form spec shard ia da ib db) ≡ repaired_length spec shard ia da ib db
unfolding repaired_form repaired_length
length_repaired spec shard ia da ib db = length-settled (chosen_content spec shard ia da ib db)
