-- The entries of a minishard, in stored order: three numbers for each (RULES L5).
use Rattle.std.specs.Prelude.{ℕ, zero, suc, ◌+◌, List, [], ◌∷◌, length}
use Rattle.shard.specs.index.Index.{entry_start_of, entry_end_of, entry_count, id_steps, start_steps, sizes, id_at, start_at}

-- k entries from entry i on, of the n at s in a file whose shard index has `base` bytes: id, place in the file, length
unfoldable pub triples_from : ℕ → List ℕ → ℕ → ℕ → ℕ → ℕ → List ℕ
triples_from base d s n i zero = []
triples_from base d s n i (suc k) =
    id_at (id_steps d s) i ∷ (base + start_at (start_steps d s n) (sizes d s n) i) ∷ sizes d s n i ∷ triples_from base d s n (suc i) k

-- the listing of minishard m of a shard of two parts
unfoldable pub listing_in : List ℕ → List ℕ → ℕ → List ℕ
listing_in index d m =
    let s = entry_start_of index m in
    let n = entry_count s (entry_end_of index m) in
    triples_from (length index) d s n 0 n
