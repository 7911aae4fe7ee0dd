-- What a sound shard lists (RULES F15): items, in whatever order they stand.
use Rattle.std.specs.Prelude.{◌≡◌, ℕ, ◌<◌, ◌↔◌, List}
use Rattle.sharding.specs.declared.Sharding.{Sharding}
use Rattle.sharding.specs.Specification.{minishard_count_of}
use Rattle.shard.specs.index.Index.{entry_start_of, entry_end_of, entry_count, id_steps, id_at, chunk_at}
use Rattle.shard.specs.Items.{Item, item_at}
use Rattle.shard.specs.File.{index_part, data_part}

-- entry i of minishard m of the shard has this id and these bytes
pub record ListsAt (index d : List ℕ) (m i id : ℕ) (bytes : List ℕ) : Type 0 where
  pub among : i < entry_count (entry_start_of index m) (entry_end_of index m)
  pub named : id_at (id_steps d (entry_start_of index m)) i ≡ id
  pub holding : chunk_at d (entry_start_of index m) (entry_count (entry_start_of index m) (entry_end_of index m)) i ≡ bytes

-- minishard m lists the id with the bytes
pub record ListsIn (index d : List ℕ) (m id : ℕ) (bytes : List ℕ) : Type 0 where
  pub entry : ℕ
  pub lists : ListsAt index d m entry id bytes

-- ---- with all that goes with it

-- minishard m lists the item
pub record ListsItem (spec : Sharding) (index d : List ℕ) (m : ℕ) (item : Item) : Type 0 where
  pub entry : ℕ
  pub among : entry < entry_count (entry_start_of index m) (entry_end_of index m)
  pub listed : item_at spec d (entry_start_of index m) (entry_count (entry_start_of index m) (entry_end_of index m)) entry ≡ item

-- the shard does (RULES F15)
pub record Lists (spec : Sharding) (file : List ℕ) (item : Item) : Type 0 where
  pub minishard : ℕ
  pub below : minishard < minishard_count_of spec
  pub lists : ListsItem spec (index_part spec file) (data_part spec file) minishard item

-- two shards list the same (RULES F15)
abbrev pub SameListing : Sharding → List ℕ → List ℕ → Type 0
SameListing spec a b = (item : Item) → Lists spec a item ↔ Lists spec b item

-- ---- of a volume, whose chunks have no leads: pairs of an id and its chunk's bytes

-- the shard lists the id with the bytes
pub record ListsChunk (spec : Sharding) (file : List ℕ) (id : ℕ) (bytes : List ℕ) : Type 0 where
  pub minishard : ℕ
  pub below : minishard < minishard_count_of spec
  pub lists : ListsIn (index_part spec file) (data_part spec file) minishard id bytes

-- two shards list the same pairs (RULES F15)
abbrev pub SameChunks : Sharding → List ℕ → List ℕ → Type 0
SameChunks spec a b = (id : ℕ) (bytes : List ℕ) → ListsChunk spec a id bytes ↔ ListsChunk spec b id bytes
