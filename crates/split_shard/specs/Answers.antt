-- What calls on a pair answer: 1, 5, 23, and then as for the joined file (RULES P2).
use Rattle.std.specs.Prelude.{ℕ, ◌-◌, ◌≤◌, Bool, not, ◌||◌, List, ◌++◌, eqb}
use Rattle.sharding.specs.declared.Sharding.{Sharding}
use Rattle.sharding.specs.Specification.{no_such_shard}
use Rattle.sharding.specs.placement.Place.{shard_of}
use Rattle.shard.specs.declared.CheckAnswer.{CheckAnswer}
use Rattle.shard.specs.declared.CheckAnswer.TheVariants as C
use Rattle.shard.specs.File.{check_answer}
use Rattle.split_shard.specs.seam.Pair.{pair_answer}
use Rattle.lookup.specs.declared.id_search.LookupAnswer.{LookupAnswer}
use Rattle.lookup.specs.declared.id_search.LookupAnswer.TheVariants.{Found, Refused, Faulty}
use Rattle.lookup.specs.Find.{lookup_answer}
use Rattle.lookup.specs.fragments.Fragment.{fragment_answer}

-- RULES P2
unfoldable pub pair_check : Sharding → ℕ → List ℕ → List ℕ → CheckAnswer
pair_check spec shard index d = pair_answer C.Refused spec (no_such_shard spec shard) index (check_answer spec shard (index ++ d))

-- 5 of a lookup, as in one file: also an id of another shard
abbrev pub other_shard : Sharding → ℕ → ℕ → Bool
other_shard spec shard id = no_such_shard spec shard || not (eqb (shard_of spec id) shard)

-- the place found is one in the joined file (RULES P2)
unfoldable pub pair_lookup : Sharding → ℕ → List ℕ → List ℕ → ℕ → LookupAnswer
pair_lookup spec shard index d id = pair_answer Refused spec (other_shard spec shard id) index (lookup_answer spec shard (index ++ d) id)

-- RULES P2
unfoldable pub pair_fragment : Sharding → ℕ → List ℕ → List ℕ → ℕ → ℕ → ℕ → LookupAnswer
pair_fragment spec shard index d id level node =
    pair_answer Refused spec (other_shard spec shard id) index (fragment_answer spec shard (index ++ d) id level node)

-- ---- the part handed out is one of the data file

-- an answer with its place counted in the data file, behind an index file of `seam` bytes (RULES P3)
abbrev pub in_data : ℕ → LookupAnswer → LookupAnswer
in_data seam (Found start n) = Found (start - seam) n
in_data seam (Refused number) = Refused number
in_data seam (Faulty number position) = Faulty number position

-- what is found lies behind the seam
abbrev pub Behind : ℕ → LookupAnswer → Type 0
Behind seam (Found start n) = seam ≤ start
Behind seam (Refused number) = Unit {0}
Behind seam (Faulty number position) = Unit {0}
