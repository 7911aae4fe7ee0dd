-- Lookup in a shard of two parts (RULES L1): 7 to 11 of the chosen minishard, for a mesh also 15 to 17 and 21, with their position, then 12.
use Rattle.std.specs.Prelude.{ℕ, List, [], ◌∷◌, ◌++◌, length}
use Rattle.refusal.specs.Checks.{Check, answered_at}
use Rattle.sharding.specs.declared.Sharding.{Sharding}
use Rattle.sharding.specs.placement.Place.{minishard_of}
use Rattle.shard.specs.index.Index.{entry_start_of, entry_end_of, entry_count}
use Rattle.shard.specs.Checks.{minishard_checks}
use Rattle.lookup.specs.declared.id_search.LookupAnswer.{LookupAnswer}
use Rattle.lookup.specs.declared.id_search.LookupAnswer.TheVariants.{Refused, Faulty}
use Rattle.lookup.specs.id_search.Search.{not_listed, chunk_of}

-- the chosen minishard is judged in full, then searched
unfoldable pub chosen_checks : Sharding → ℕ → List ℕ → List ℕ → ℕ → List Check
chosen_checks spec shard index d id =
    let m = minishard_of spec id in
    let s = entry_start_of index m in
    minishard_checks spec shard index d m ++ (not_listed d s (entry_count s (entry_end_of index m)) id ∷ [])

-- its chunk of the id
unfoldable pub chosen_chunk : Sharding → List ℕ → List ℕ → ℕ → LookupAnswer
chosen_chunk spec index d id =
    let m = minishard_of spec id in
    let s = entry_start_of index m in
    chunk_of (length index) d s (entry_count s (entry_end_of index m)) id

unfoldable pub lookup_in : Sharding → ℕ → List ℕ → List ℕ → ℕ → LookupAnswer
lookup_in spec shard index d id = answered_at Refused Faulty (chosen_checks spec shard index d id) (chosen_chunk spec index d id)
