-- What refuses a call of an intake, each test by itself (RULES N1, N3, N8).
use Rattle.std.specs.Prelude.{ℕ, ◌+◌, ◌*◌, Bool, not, ◌&&◌, ◌||◌, List, ltb, leb, eqb}
use Rattle.refusal.specs.Choice.{pick}
use Rattle.sharding.specs.Specification.{allowed}
use Rattle.sharding.specs.placement.Place.{shard_of, minishard_of}
use Rattle.intake.specs.declared.state.Intake.{Intake}
use Rattle.intake.specs.state.State.{most, announced_length, sane, announceable}

-- 30: "after opening, a lent buffer of another length than then" (RULES N1)
unfoldable pub other_lengths : Intake → ℕ → ℕ → Bool
other_lengths s output waiting = not (eqb s.output output) || not (eqb s.waiting waiting)

-- 10: "the id belongs to another shard", by a specification that says so
unfoldable pub foreign : Intake → ℕ → Bool
foreign s id = allowed s.spec && not (eqb (shard_of s.spec id) s.shard)

-- 25 of any call: "after the close", or a state that does not pass the tests of constant time, so that no calls left it (RULES N8)
unfoldable pub unusable : Intake → List ℕ → Bool
unusable s w = not (sane s w) || not (eqb s.phase 0)

-- 25 of an announcement: "out of order", below the open minishard, or in it and not above the last id
unfoldable pub out_of_order : Intake → ℕ → Bool
out_of_order s id =
    ltb (minishard_of s.spec id) s.minishard
    || (eqb (minishard_of s.spec id) s.minishard && (ltb 0 s.count && leb id s.last))

-- 25 of a call that ends the open minishard: pairs wait that no calls could have left (RULES N8)
unfoldable pub forged : Intake → List ℕ → Bool
forged s w = not (announceable s w)

-- 25 of an announcement in another minishard than the open one, which ends that
unfoldable pub forged_turn : Intake → ℕ → List ℕ → Bool
forged_turn s id w = not (eqb (minishard_of s.spec id) s.minishard) && forged s w

-- how many of the chunks that wait are of minishard m: the second buffer is "used afresh for each minishard"
unfoldable pub count_in : Intake → ℕ → ℕ
count_in s m = pick (eqb m s.minishard) s.count 0

-- 13 of an announcement: "the settled form of all announced so far, this chunk included, would pass the output or 1 GiB, or the second buffer has
-- no 16 bytes left for it"
unfoldable pub no_room : Intake → ℕ → ℕ → Bool
no_room s id size =
    ltb (most s.output) (announced_length s + (size + 24)) || ltb s.waiting (16 * count_in s (minishard_of s.spec id) + 16)
