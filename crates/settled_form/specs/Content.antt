-- What a shard lists, minishard by minishard in rising id order, and the settled form that is made of it.
-- A shard is two lists here: its shard index, and the data behind it.
use Rattle.std.specs.Prelude.{ℕ, zero, suc, List, [], ◌∷◌}
use Rattle.sharding.specs.declared.Sharding.{Sharding}
use Rattle.sharding.specs.Specification.{minishard_count_of}
use Rattle.shard.specs.index.Index.{entry_start_of, entry_end_of, entry_count}
use Rattle.shard.specs.File.{index_part, data_part}
use Rattle.shard.specs.Items.{Item, item_at}
use Rattle.settled_form.specs.Sorted.{sort_by}
use Rattle.settled_form.specs.Form.{settled, settled_length}

-- ---- a minishard

-- k items from entry i on, as they stand
unfoldable pub items_from : Sharding → List ℕ → ℕ → ℕ → ℕ → ℕ → List Item
items_from spec d s n i zero = []
items_from spec d s n i (suc k) = item_at spec d s n i ∷ items_from spec d s n (suc i) k

-- all items of the minishard index of n entries at s
unfoldable pub items_at : Sharding → List ℕ → ℕ → ℕ → List Item
items_at spec d s n = items_from spec d s n 0 n

-- those of minishard m
abbrev pub items_of : Sharding → List ℕ → List ℕ → ℕ → List Item
items_of spec index d m = items_at spec d (entry_start_of index m) (entry_count (entry_start_of index m) (entry_end_of index m))

-- "in rising id order"
abbrev pub id_of : Item → ℕ
id_of x = x.id

-- RULES U3
unfoldable pub by_id : List Item → List Item
by_id items = sort_by id_of items

-- ---- a shard

-- k minishards from minishard m on
unfoldable pub content_from : Sharding → List ℕ → List ℕ → ℕ → ℕ → List (List Item)
content_from spec index d m zero = []
content_from spec index d m (suc k) = by_id (items_of spec index d m) ∷ content_from spec index d (suc m) k

-- all that it lists: the order in which it stands makes no difference (RULES U3)
unfoldable pub content_of : Sharding → List ℕ → List ℕ → List (List Item)
content_of spec index d = content_from spec index d 0 (minishard_count_of spec)

-- its settled form, and the length of that (RULES U3)
unfoldable pub form_of : Sharding → List ℕ → List ℕ → List ℕ
form_of spec index d = settled (content_of spec index d)

unfoldable pub form_length : Sharding → List ℕ → List ℕ → ℕ
form_length spec index d = settled_length (content_of spec index d)

-- ---- a file, by its two parts

abbrev pub file_content : Sharding → List ℕ → List (List Item)
file_content spec file = content_of spec (index_part spec file) (data_part spec file)

abbrev pub file_form : Sharding → List ℕ → List ℕ
file_form spec file = form_of spec (index_part spec file) (data_part spec file)

abbrev pub file_form_length : Sharding → List ℕ → ℕ
file_form_length spec file = form_length spec (index_part spec file) (data_part spec file)
