-- The same as tests, and how many bytes are unlisted.
use Rattle.std.specs.Prelude.{ℕ, ◌-◌, Bool, ◌||◌, List, length}
use Rattle.endian.specs.Range.{any_below}
use Rattle.bitmap.specs.Positions.{within, misses}
use Rattle.sharding.specs.declared.Sharding.{Sharding}
use Rattle.sharding.specs.Specification.{minishard_count_of}
use Rattle.shard.specs.index.Index.{entry_start_of, entry_end_of, entry_count, start_steps, sizes, start_at, end_at}
use Rattle.shard.specs.Items.{leads}
use Rattle.shard.specs.File.{index_part, data_part}

-- where item i of the minishard index of n entries at s begins: with its lead, and its chunk follows
unfoldable pub item_start : Sharding → List ℕ → ℕ → ℕ → ℕ → ℕ
item_start spec d s n i = start_at (start_steps d s n) (sizes d s n) i - leads spec d s n i

-- item i holds the byte at p
unfoldable pub in_item : Sharding → List ℕ → ℕ → ℕ → ℕ → ℕ → Bool
in_item spec d s n p i = within (item_start spec d s n i) (end_at (start_steps d s n) (sizes d s n) i) p

-- one of the first k items does
unfoldable pub in_items : Sharding → List ℕ → ℕ → ℕ → ℕ → ℕ → Bool
in_items spec d s n k p = any_below k (in_item spec d s n p)

-- an item of the minishard index from s to e does, or that index itself
unfoldable pub in_minishard : Sharding → List ℕ → ℕ → ℕ → ℕ → Bool
in_minishard spec d s e p = in_items spec d s (entry_count s e) (entry_count s e) p || within s e p

-- something of minishard m does
unfoldable pub covered_by : Sharding → List ℕ → List ℕ → ℕ → ℕ → Bool
covered_by spec index d p m = in_minishard spec d (entry_start_of index m) (entry_end_of index m) p

-- something of the first k minishards does
unfoldable pub covered_in : Sharding → List ℕ → List ℕ → ℕ → ℕ → Bool
covered_in spec index d k p = any_below k (covered_by spec index d p)

-- something of the shard does
unfoldable pub covered_at : Sharding → List ℕ → List ℕ → ℕ → Bool
covered_at spec index d p = covered_in spec index d (minishard_count_of spec) p

-- how many bytes nothing of the shard holds
unfoldable pub unlisted_bytes : Sharding → List ℕ → List ℕ → ℕ
unlisted_bytes spec index d = misses (covered_at spec index d) (length d)

-- of a file (RULES U4)
abbrev pub file_unlisted : Sharding → List ℕ → ℕ
file_unlisted spec file = unlisted_bytes spec (index_part spec file) (data_part spec file)
