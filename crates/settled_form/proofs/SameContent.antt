-- Two sound shards list the same exactly when their contents are equal.
use Prim.Native.Nat.{ℕ, ◌<◌}
use mathlib.Core.Path.{◌≡◌, sym, ap, ◌∙◌}
use mathlib.Core.List.Memᴰ
use mathlib.Core.List.{List, []}
use native.Mathlib.Omega.{arith}
use lib.ListN.{get_or}
use lib.Seq.{ext_get_or}
use Rattle.sharding.specs.declared.Sharding.{Sharding}
use Rattle.sharding.specs.Specification.{minishard_count_of}
use Rattle.shard.specs.index.Index.{entry_start_of, entry_end_of, entry_count}
use Rattle.shard.specs.File.{index_part, data_part}
use Rattle.shard.specs.Sound.{SoundShard}
use Rattle.shard.specs.Lists.{ListsItem, Lists, SameListing}
use Rattle.shard.specs.Items.{Item}
use Rattle.settled_form.specs.Sorted.{Member}
use Rattle.settled_form.specs.Content.{items_of, id_of, by_id, file_content}
use Rattle.settled_form.proofs.Sorting.{mem_sort, sort_mem, sort_same}
use Rattle.settled_form.proofs.Measures.{length-content}
use Rattle.settled_form.proofs.Stored.{item-member, member-item}
use Rattle.settled_form.proofs.SoundContent.{sound-listed, items_at_lem}

-- ---- what a minishard lists are its items

module _ (spec : Sharding) (index d : List ℕ) (m : ℕ) where
  abbrev s : ℕ
  s = entry_start_of index m

  abbrev n : ℕ
  n = entry_count (entry_start_of index m) (entry_end_of index m)

  listed-member : {x : Item} → ListsItem spec index d m x → Member x (items_of spec index d m)
  listed-member h = Memᴰ.cast (sym h.listed) (item-member spec d s n h.entry h.among)

  member-listed : {x : Item} → Member x (items_of spec index d m) → ListsItem spec index d m x
  member-listed h =
      let r = member-item spec d s n h in
      record { entry = r.entry; among = r.before; listed = r.is }

-- sorted or as they stand
sorted-member : {x : Item} (xs : List Item) → Member x xs → Member x (by_id xs)
unfolding by_id
sorted-member xs h = mem_sort id_of xs h

member-sorted : {x : Item} (xs : List Item) → Member x (by_id xs) → Member x xs
unfolding by_id
member-sorted xs h = sort_mem id_of xs h

-- ---- equal contents list the same

module _ (spec : Sharding) (a b : List ℕ) (e : file_content spec a ≡ file_content spec b) where
  same-sorted : (m : ℕ) → m < minishard_count_of spec → by_id (items_of spec (index_part spec a) (data_part spec a) m) ≡ by_id (items_of spec (index_part spec b) (data_part spec b) m)
  same-sorted m l =
      sym (items_at_lem spec (index_part spec a) (data_part spec a) m l) ∙ ap (λ (c : List (List Item)). get_or c m []) e ∙ items_at_lem spec (index_part spec b) (data_part spec b) m l

  content-lists : (x : Item) → Lists spec a x → Lists spec b x
  content-lists x h =
      let k = h.minishard in
      let i = sorted-member (items_of spec (index_part spec a) (data_part spec a) k) (listed-member spec (index_part spec a) (data_part spec a) k h.lists) in
      record {
        minishard = k;
        below = h.below;
        lists = member-listed spec (index_part spec b) (data_part spec b) k (member-sorted (items_of spec (index_part spec b) (data_part spec b) k) (rw (same-sorted k h.below) at i));
      }

pub content-listing : (spec : Sharding) (a b : List ℕ) → file_content spec a ≡ file_content spec b → SameListing spec a b
content-listing spec a b e x = (content-lists spec a b e x, content-lists spec b a (sym e) x)

-- ---- sound shards that list the same have equal contents

module _ {spec : Sharding} {shard : ℕ} {a b : List ℕ} (f : SoundShard spec shard a) (g : SoundShard spec shard b)
    (same : (x : Item) → Lists spec a x → Lists spec b x) where
  -- an item that minishard m lists is minishard m's, so that the other shard lists it there too
  listing-members : (m : ℕ) → m < minishard_count_of spec → (x : Item) → Member x (items_of spec (index_part spec a) (data_part spec a) m) → Member x (items_of spec (index_part spec b) (data_part spec b) m)
  listing-members m l x h =
      let o = same x (record { minishard = m; below = l; lists = member-listed spec (index_part spec a) (data_part spec a) m h }) in
      let i = listed-member spec (index_part spec b) (data_part spec b) o.minishard o.lists in
      let e : o.minishard ≡ m = sym ((sound-listed (g.each o.minishard o.below)).here x i) ∙ (sound-listed (f.each m l)).here x h in
      rw e at i

pub listing-content : {spec : Sharding} {shard : ℕ} {a b : List ℕ} → SoundShard spec shard a → SoundShard spec shard b → SameListing spec a b → file_content spec a ≡ file_content spec b
unfolding by_id
listing-content {spec} {shard} {a} {b} f g same =
    let n = length-content spec (index_part spec a) (data_part spec a) in
    ext_get_or [] (file_content spec a) (file_content spec b) (n ∙ sym (length-content spec (index_part spec b) (data_part spec b))) λ m k.
    let l : m < minishard_count_of spec = omega arith in
    items_at_lem spec (index_part spec a) (data_part spec a) m l
    ∙ sort_same id_of _ _ (sound-listed (f.each m l)).distinct (sound-listed (g.each m l)).distinct
    (λ x. (listing-members f g (λ y. (same y).0) m l x, listing-members g f (λ y. (same y).1) m l x))
    ∙ sym (items_at_lem spec (index_part spec b) (data_part spec b) m l)
