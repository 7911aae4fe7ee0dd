-- The places of many ids in one call: where nothing is refused, those that each id has alone.
use Rattle.std.specs.Prelude.{ℕ, not, List, [], ◌∷◌, map, length, Ok}
use Rattle.refusal.specs.Checks.{Check, check, answered, left}
use Rattle.refusal.specs.Buffer.{room, over}
use Rattle.refusal.specs.Answers.{Answer, refuse}
use Rattle.sharding.specs.declared.Sharding.{Sharding}
use Rattle.sharding.specs.Specification.{allowed}
use Rattle.sharding.specs.placement.Place.{shard_of, minishard_of}

unfoldable pub shards_of : Sharding → List ℕ → List ℕ
shards_of spec ids = map (shard_of spec) ids

unfoldable pub minishards_of : Sharding → List ℕ → List ℕ
minishards_of spec ids = map (minishard_of spec) ids

-- 1 as of one id's place; then 13 where the lent shards or the lent minishards are fewer than the ids
unfoldable pub places_checks : Sharding → List ℕ → List ℕ → List ℕ → List Check
places_checks spec ids shards minishards =
    check 1 (not (allowed spec))
    ∷ room (shards_of spec ids) shards
    ∷ room (minishards_of spec ids) minishards
    ∷ []

-- how many places there are (RULES S8)
unfoldable pub places_answer : Sharding → List ℕ → List ℕ → List ℕ → Answer ℕ
places_answer spec ids shards minishards = answered refuse (places_checks spec ids shards minishards) (Ok (length ids))

-- what the lent shards then hold, and the lent minishards (RULES S8)
unfoldable pub shards_left : Sharding → List ℕ → List ℕ → List ℕ → List ℕ
shards_left spec ids shards minishards = left (places_checks spec ids shards minishards) (over (shards_of spec ids) shards) shards

-- RULES S8
unfoldable pub minishards_left : Sharding → List ℕ → List ℕ → List ℕ → List ℕ
minishards_left spec ids shards minishards = left (places_checks spec ids shards minishards) (over (minishards_of spec ids) minishards) minishards
