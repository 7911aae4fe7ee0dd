-- The chunk of an id in a minishard index of n entries at s (RULES L1).
use Rattle.std.specs.Prelude.{ℕ, ◌+◌, Bool, not, List, [], ◌∷◌, ◌==◌}
use Rattle.refusal.specs.Checks.{Check, check, answered}
use Rattle.endian.specs.Range.{any_below, first}
use Rattle.shard.specs.index.Index.{id_steps, start_steps, sizes, id_at, start_at}
use Rattle.lookup.specs.declared.id_search.LookupAnswer.{LookupAnswer}
use Rattle.lookup.specs.declared.id_search.LookupAnswer.TheVariants.{Found, Refused}

-- entry i has this id
unfoldable pub is_id : (ℕ → ℕ) → ℕ → ℕ → Bool
is_id steps id i = id_at steps i == id

-- 12: "the id is not listed"
abbrev pub not_listed : List ℕ → ℕ → ℕ → ℕ → Check
not_listed d s n id = check 12 (not (any_below n (is_id (id_steps d s) id)))

-- the chunk of the first entry that has it, in a file whose shard index has `base` bytes (RULES L1)
unfoldable pub chunk_of : ℕ → List ℕ → ℕ → ℕ → ℕ → LookupAnswer
chunk_of base d s n id =
    let i = first (is_id (id_steps d s) id) n in
    Found (base + start_at (start_steps d s n) (sizes d s n) i) (sizes d s n i)

unfoldable pub found_in : ℕ → List ℕ → ℕ → ℕ → ℕ → LookupAnswer
found_in base d s n id = answered Refused (not_listed d s n id ∷ []) (chunk_of base d s n id)
