-- The refusals of the calls of an intake, said of what was delivered alone (RULES N7).
use Rattle.std.specs.Prelude.{ℕ, ◌+◌, ◌*◌, ◌-◌, Bool, false, not, ◌&&◌, ◌||◌, List, [], ◌∷◌, ◌++◌, ltb, leb, eqb, length}
use Rattle.refusal.specs.Checks.{Check, check}
use Rattle.sharding.specs.declared.Sharding.{Sharding}
use Rattle.sharding.specs.Specification.{no_such_shard}
use Rattle.sharding.specs.placement.Place.{shard_of, minishard_of}
use Rattle.shard.specs.Items.{Item}
use Rattle.settled_form.specs.Form.{settled}
use Rattle.intake.specs.state.State.{most, not_volume}
use Rattle.delivered.specs.Delivered.{Delivery, concat_parts, as_items, in_minishard, gathered}

-- 25: the id is not above the last one that came, by minishard and then by id
unfoldable pub not_after : Sharding → List Delivery → ℕ → Bool
not_after spec [] id = false
not_after spec (x ∷ []) id =
    ltb (minishard_of spec id) (minishard_of spec x.id) || (eqb (minishard_of spec id) (minishard_of spec x.id) && leb id x.id)
not_after spec (x ∷ y ∷ xs) id = not_after spec (y ∷ xs) id

-- 26: the bytes that are still owed
unfoldable pub owing : List Delivery → ℕ
owing [] = 0
owing (x ∷ []) = x.size - length (concat_parts x.parts)
owing (x ∷ y ∷ xs) = owing (y ∷ xs)

-- 13: "the settled form of all announced so far, this chunk included, would pass the output or 1 GiB"
unfoldable pub too_long : Sharding → List Item → ℕ → Bool
too_long spec xs output = ltb (most output) (length (settled (gathered spec xs)))

-- "or the second buffer has no 16 bytes left for it", of the chunk x that is to follow xs
unfoldable pub no_pair_left : Sharding → List Item → Item → ℕ → Bool
no_pair_left spec xs x waiting = ltb waiting (16 * length (in_minishard spec (minishard_of spec x.id) xs) + 16)

-- ---- the calls, where nothing but the order of calls and the sizes can be wrong

-- RULES N7
unfoldable pub open_says : Sharding → ℕ → ℕ → List Check
open_says spec shard output = check 1 (not_volume spec) ∷ check 5 (no_such_shard spec shard) ∷ check 13 (too_long spec [] output) ∷ []

-- an announcement of the chunk x after xs (RULES N7)
unfoldable pub announce_says : Sharding → ℕ → ℕ → ℕ → List Delivery → Item → List Check
announce_says spec shard output waiting xs x =
    check 10 (not (eqb (shard_of spec x.id) shard))
    ∷ check 25 (not_after spec xs x.id)
    ∷ check 26 (ltb 0 (owing xs))
    ∷ check 13 (too_long spec (as_items xs ++ (x ∷ [])) output || no_pair_left spec (as_items xs) x waiting)
    ∷ []

-- a part of n bytes (RULES N7)
unfoldable pub part_says : List Delivery → ℕ → List Check
part_says xs n = check 26 (ltb (owing xs) n) ∷ []

-- RULES N7
unfoldable pub close_says : List Delivery → List Check
close_says xs = check 26 (ltb 0 (owing xs)) ∷ []
