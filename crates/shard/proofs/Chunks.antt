-- What a shard lists, as items and as pairs of an id and its chunk's bytes.
use Rattle.std.proofs.Common.{◌≡◌, ℕ, ◌↔◌, List, [], sym, ap, ◌∙◌}
use Rattle.sharding.specs.declared.Sharding.{Sharding}
use Rattle.shard.specs.index.Index.{entry_start_of, entry_end_of, entry_count, id_steps, id_at, chunk_at}
use Rattle.shard.specs.Items.{Item, item_of, item_at, NoLeads}
use Rattle.shard.specs.Lists.{ListsAt, ListsIn, ListsItem, Lists, SameListing, ListsChunk, SameChunks}

abbrev pub pair : ℕ → List ℕ → Item
pair id bytes = record { id = id; lead = []; body = bytes }

-- an item without a lead
pub item-pair : (spec : Sharding) → NoLeads spec → (d : List ℕ) (s n i : ℕ) → item_at spec d s n i ≡ pair (id_at (id_steps d s) i) (chunk_at d s n i)
unfolding item_at item_of
item-pair spec none d s n i = rw (none (chunk_at d s n i))

-- an item that a minishard lists is listed with its id and bytes
pub item-at : {spec : Sharding} {x d : List ℕ} {m : ℕ} {item : Item} (t : ListsItem spec x d m item) → ListsAt x d m t.entry item.id item.body
unfolding item_at item_of
item-at t = record { among = t.among; named = ap (λ (i : Item). i.id) t.listed; holding = ap (λ (i : Item). i.body) t.listed }

module _ (spec : Sharding) (none : NoLeads spec) where
  chunk_item : {x d : List ℕ} {m id : ℕ} {bytes : List ℕ} → ListsIn x d m id bytes → ListsItem spec x d m (pair id bytes)
  chunk_item {x} {d} {m} t =
      record {
        entry = t.entry;
        among = t.lists.among;
        listed = item-pair spec none d (entry_start_of x m) (entry_count (entry_start_of x m) (entry_end_of x m)) t.entry
            ∙ (λ i. pair (t.lists.named i) (t.lists.holding i));
      }

  -- an item listed has no lead
  item-lead : {file : List ℕ} {item : Item} → Lists spec file item → pair item.id item.body ≡ item
  item-lead {item = item} t =
      let e = sym t.lists.listed ∙ item-pair spec none _ _ _ _ in
      λ i. record { id = item.id; lead = sym (ap (λ (x : Item). x.lead) e) i; body = item.body }

  lists-chunk : {file : List ℕ} {item : Item} → Lists spec file item → ListsChunk spec file item.id item.body
  lists-chunk t = record { minishard = t.minishard; below = t.below; lists = record { entry = t.lists.entry; lists = item-at t.lists } }

  chunk-lists : {file : List ℕ} {id : ℕ} {bytes : List ℕ} → ListsChunk spec file id bytes → Lists spec file (pair id bytes)
  chunk-lists t = record { minishard = t.minishard; below = t.below; lists = chunk_item t.lists }

  -- where no chunk has a lead, to list the same items is to list the same ids with the same bytes
  pub same-listing-is-same-chunks : (a b : List ℕ) → SameListing spec a b ↔ SameChunks spec a b
  same-listing-is-same-chunks a b = (
    (λ h id bytes. ((λ t. lists-chunk ((h (pair id bytes)).0 (chunk-lists t))), (λ t. lists-chunk ((h (pair id bytes)).1 (chunk-lists t))))),
    (λ h item. ((λ t. over t (h item.id item.body).0), (λ t. over t (h item.id item.body).1))),
  )
    where
      over : {x y : List ℕ} {item : Item} → Lists spec x item → (ListsChunk spec x item.id item.body → ListsChunk spec y item.id item.body) → Lists spec y item
      over t go = rw (item-lead t) at (chunk-lists (go (lists-chunk t)))
