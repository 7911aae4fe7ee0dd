-- From id to shard (RULES S2, S5).
use Rattle.std.specs.Prelude.{ℕ, ◌/◌, ◌%◌, ◌^◌, not, List, [], ◌∷◌, eqb, Ok, Err}
use Rattle.refusal.specs.Choice.{pick}
use Rattle.refusal.specs.Checks.{Check, check, answered}
use Rattle.refusal.specs.Result.{Result, success, refused}
use Rattle.murmur3.specs.Murmur.{murmur_hash}
use Rattle.sharding.specs.declared.Sharding.{Sharding}
use Rattle.sharding.specs.declared.placement.Place.{Place}
use Rattle.refusal.specs.Answers.{Answer, refuse}
use Rattle.refusal.specs.Table.{number_of}
use Rattle.sharding.specs.Specification.{murmur, minishard_count_of, shard_count_of, allowed}

-- the hash of the id shifted right by preshift (RULES S2)
unfoldable pub hashed_id : Sharding → ℕ → ℕ
hashed_id spec id =
    let shifted = id / 2 ^ spec.preshift in
    pick (eqb spec.hash murmur) (murmur_hash shifted) shifted

-- the low minishard_bits of the hashed id (RULES S5)
unfoldable pub minishard_of : Sharding → ℕ → ℕ
minishard_of spec id = hashed_id spec id % minishard_count_of spec

-- the next shard_bits (RULES S5)
unfoldable pub shard_of : Sharding → ℕ → ℕ
shard_of spec id = (hashed_id spec id / minishard_count_of spec) % shard_count_of spec

abbrev pub place_of : Sharding → ℕ → Place
place_of spec id = record { shard = shard_of spec id; minishard = minishard_of spec id }

-- the place of any id is refused with 1 alone (RULES R2)
unfoldable pub place_checks : Sharding → List Check
place_checks spec = check 1 (not (allowed spec)) ∷ []

unfoldable pub place_answer : Sharding → ℕ → Answer Place
place_answer spec id = answered refuse (place_checks spec) (Ok (place_of spec id))

abbrev pub place_result : Answer Place → Result Place
place_result (Ok place) = success place
place_result (Err k) = refused (number_of k)
