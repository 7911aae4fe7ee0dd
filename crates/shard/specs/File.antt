-- A shard as one file, and the verdict of the whole-shard check (RULES F13: 1, 5, 6, then by minishards 7 to 11, for a
-- mesh also 15 to 17 and 21).
use Rattle.std.specs.Prelude.{ℕ, ◌*◌, Bool, not, ◌||◌, List, [], ◌∷◌, ◌++◌, length, take, drop, nat_lt}
use Rattle.refusal.specs.Checks.{Check, check, unless, answered}
use Rattle.refusal.specs.Result.{Result, success, refused, faulty_in}
use Rattle.sharding.specs.declared.Sharding.{Sharding}
use Rattle.sharding.specs.Specification.{allowed, minishard_count_of, no_such_shard}
use Rattle.shard.specs.index.Index.{most_shard_bytes}
use Rattle.shard.specs.declared.ShardFault.{ShardFault}
use Rattle.shard.specs.declared.CheckAnswer.{CheckAnswer}
use Rattle.shard.specs.declared.CheckAnswer.TheVariants.{Sound, Refused, Faulty}
use Rattle.shard.specs.Faults.{shard_fault}
use Rattle.shard.specs.Checks.{minishards_checks}

-- the shard index has a start and an end, of 8 bytes each, for each minishard (RULES F1)
abbrev pub index_length_of : Sharding → ℕ
index_length_of spec = 16 * minishard_count_of spec

-- the two parts of a file
abbrev pub index_part : Sharding → List ℕ → List ℕ
index_part spec file = take (index_length_of spec) file

abbrev pub data_part : Sharding → List ℕ → List ℕ
data_part spec file = drop (index_length_of spec) file

-- refusal 6 of a file of n bytes (RULES F1)
unfoldable pub bad_file_length : Sharding → ℕ → Bool
bad_file_length spec n = nat_lt n (index_length_of spec) || nat_lt most_shard_bytes n

-- ---- the checks

-- 1, 5 and 6 of a call on a file; what 5 is depends on the call
unfoldable pub file_checks : Sharding → Bool → List ℕ → List Check
file_checks spec five file = check 1 (not (allowed spec)) ∷ check 5 five ∷ check 6 (bad_file_length spec (length file)) ∷ []

-- all of a shard
unfoldable pub shard_checks : Sharding → ℕ → List ℕ → List Check
shard_checks spec shard file =
    file_checks spec (no_such_shard spec shard) file
    ++ minishards_checks spec shard (index_part spec file) (data_part spec file) 0 (minishard_count_of spec)

-- ---- the whole-shard check

-- what it says of the first fault: 7 to 11, for a mesh also 15 to 17 and 21, come with the minishard and the position (RULES R3)
abbrev pub check_verdict : ShardFault → CheckAnswer
check_verdict f = unless (λ k. Faulty k f.minishard f.position) f.number Sound

-- RULES F13
unfoldable pub check_answer : Sharding → ℕ → List ℕ → CheckAnswer
check_answer spec shard file =
    answered Refused (file_checks spec (no_such_shard spec shard) file)
    (check_verdict (shard_fault spec shard (index_part spec file) (data_part spec file)))

abbrev pub check_result : CheckAnswer → Result (Unit {0})
check_result Sound = success tt
check_result (Refused k) = refused k
check_result (Faulty k m p) = faulty_in k m p
