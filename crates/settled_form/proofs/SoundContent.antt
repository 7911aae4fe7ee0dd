-- What a sound minishard gives of its items, in whatever order they stand, and so of the content of a sound shard.
use Prim.Native.Nat.{ℕ, zero, suc, ◌+◌, ◌^◌, ◌≤◌, ◌<◌}
use mathlib.Core.Path.{◌≡◌, ap, ◌∙◌}
use mathlib.Core.Bool.{true}
use mathlib.Core.List.{List, []}
use native.Mathlib.Omega.{arith}
use native.Mathlib.Nat.{not-suc-le-zero}
use lib.ListN.{length, get_or}
use Rattle.sharding.specs.declared.Sharding.{Sharding}
use Rattle.sharding.specs.Specification.{is_mesh, minishard_count_of}
use Rattle.sharding.specs.placement.Place.{shard_of, minishard_of}
use Rattle.mesh_manifest.specs.sound.Soundness.{Sound}
use Rattle.shard.specs.index.Index.{entry_count, id_steps, id_at, most_shard_bytes}
use Rattle.shard.specs.File.{index_part, data_part}
use Rattle.shard.specs.Sound.{SoundFrom, SoundShard}
use Rattle.shard.specs.Items.{Item, lead_length_of, item_of, item_at}
use Rattle.shard.proofs.Leads.{sound-led}
use Rattle.shard.proofs.Items.{item-lead}
use Rattle.settled_form.specs.Sorted.{Member, Distinct}
use Rattle.settled_form.specs.Content.{items_at, items_of, id_of, by_id, content_from, content_of, form_length, file_content, file_form_length}
use Rattle.settled_form.proofs.Sorting.{sort_mem, rising_sort, distinct_sort}
use Rattle.settled_form.proofs.Measures.{length-content}
use Rattle.settled_form.proofs.Rows.{InForm}
use Rattle.settled_form.proofs.ReadBack.{Readable}
use Rattle.settled_form.proofs.Stored.{each_item, distinct_items, id-fits}

-- ---- what a sound minishard m gives of its items, in whatever order they stand

pub record Listed (spec : Sharding) (shard m : ℕ) (xs : List Item) : Type 0 where
  pub distinct : Distinct id_of xs
  pub bounded : (x : Item) → Member x xs → x.id < 2 ^ 64
  pub ours : (x : Item) → Member x xs → shard_of spec x.id ≡ shard
  pub here : (x : Item) → Member x xs → minishard_of spec x.id ≡ m
  pub led : (x : Item) → Member x xs → length x.lead ≡ lead_length_of spec x.body
  pub manifests : is_mesh spec ≡ true → (x : Item) → Member x xs → Sound x.body

pub sound-listed : {spec : Sharding} {shard m : ℕ} {d : List ℕ} {s e : ℕ} → SoundFrom spec shard m d s e → Listed spec shard m (items_at spec d s (entry_count s e))
unfolding item_at item_of
sound-listed {spec} {shard} {m} {d} {s} {e} g =
    record {
      distinct = distinct_items spec d s (entry_count s e) g.distinct;
      bounded = each_item spec d s (entry_count s e) (λ (x : Item). x.id < 2 ^ 64) (λ i l. id-fits (id_steps d s) i);
      ours = each_item spec d s (entry_count s e) (λ (x : Item). shard_of spec x.id ≡ shard) g.ours;
      here = each_item spec d s (entry_count s e) (λ (x : Item). minishard_of spec x.id ≡ m) g.here;
      led = each_item spec d s (entry_count s e) (λ (x : Item). length x.lead ≡ lead_length_of spec x.body) (λ i l. item-lead spec d (id_at (id_steps d s) i) _ _ (g.inside i l) (sound-led g i l).before);
      manifests = λ k. each_item spec d s (entry_count s e) (λ (x : Item). Sound x.body) (g.manifests k);
    }

-- what holds of them holds of them sorted
module _ {spec : Sharding} {shard m : ℕ} {xs : List Item} (g : Listed spec shard m xs) where
  listed-sorted : Listed spec shard m (by_id xs)
  unfolding by_id
  listed-sorted = record {
    distinct = distinct_sort id_of xs g.distinct;
    bounded = λ x h. g.bounded x (sort_mem id_of xs h);
    ours = λ x h. g.ours x (sort_mem id_of xs h);
    here = λ x h. g.here x (sort_mem id_of xs h);
    led = λ x h. g.led x (sort_mem id_of xs h);
    manifests = λ k x h. g.manifests k x (sort_mem id_of xs h);
  }

  listed-form : InForm spec (by_id xs)
  unfolding by_id
  listed-form = record { rising = rising_sort id_of xs g.distinct; bounded = listed-sorted.bounded; led = listed-sorted.led }

-- ---- the content of a shard

content-at : (spec : Sharding) (index d : List ℕ) (m k j : ℕ) → j < k → get_or (content_from spec index d m k) j [] ≡ by_id (items_of spec index d (m + j))
unfolding content_from
content-at spec index d m zero j l = absurd (not-suc-le-zero l)
content-at spec index d m (suc k) zero l = ap (λ (i : ℕ). by_id (items_of spec index d i)) (omega arith)
content-at spec index d m (suc k) (suc j) l = content-at spec index d (suc m) k j (omega arith) ∙ ap (λ (i : ℕ). by_id (items_of spec index d i)) (omega arith)

pub items_at_lem : (spec : Sharding) (index d : List ℕ) (m : ℕ) → m < minishard_count_of spec → get_or (content_of spec index d) m [] ≡ by_id (items_of spec index d m)
unfolding content_of
items_at_lem spec index d m l = content-at spec index d 0 (minishard_count_of spec) m l ∙ ap (λ (i : ℕ). by_id (items_of spec index d i)) (omega arith)

-- that of a sound shard
module _ {spec : Sharding} {shard : ℕ} {file : List ℕ} (sound : SoundShard spec shard file) where
  pub listed-content : (m : ℕ) → m < minishard_count_of spec → Listed spec shard m (get_or (file_content spec file) m [])
  listed-content m l = rw (items_at_lem spec (index_part spec file) (data_part spec file) m l) (listed-sorted (sound-listed (sound.each m l)))

  -- its form can be read back, where it is short enough
  pub readable-content : file_form_length spec file ≤ most_shard_bytes → Readable spec (file_content spec file)
  unfolding form_length
  readable-content h =
      let n = length-content spec (index_part spec file) (data_part spec file) in
      record {
        count = n;
        each = λ m l. rw (items_at_lem spec (index_part spec file) (data_part spec file) m (omega arith)) (listed-form (sound-listed (sound.each m (omega arith))));
        short = h;
      }
