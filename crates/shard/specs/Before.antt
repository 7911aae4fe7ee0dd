-- Ids, starts and the tests 9 and 11 as they were before order 2: exact sums, and ids that rise. No code uses them. They are kept to say
-- that a shard that passed then, of a volume as all were, passes now (RULES F16).
use Rattle.std.specs.Prelude.{◌≡◌, ℕ, zero, suc, ◌+◌, ◌^◌, Bool, ◌||◌, List, [], ◌∷◌, ◌++◌, length, nat_le, nat_lt}
use Rattle.refusal.specs.Checks.{Check, check, first_number}
use Rattle.endian.specs.Range.{sum_to}
use Rattle.sharding.specs.declared.Sharding.{Sharding}
use Rattle.sharding.specs.Specification.{volume, minishard_count_of, no_such_shard}
use Rattle.shard.specs.index.Index.{entry_start_of, entry_end_of, entry_count, id_steps, start_steps, sizes}
use Rattle.shard.specs.index.Tests.{EntryTest, entry_test}
use Rattle.shard.specs.Faults.{bad_entry, bad_length, foreign}
use Rattle.shard.specs.Checks.{entry_checks}
use Rattle.shard.specs.File.{index_part, data_part, file_checks}

-- an id was the sum of the id steps so far
unfoldable pub exact_id : (ℕ → ℕ) → ℕ → ℕ
exact_id steps i = sum_to steps (suc i)

-- a chunk started at all start steps so far plus all earlier sizes
unfoldable pub exact_start : (ℕ → ℕ) → (ℕ → ℕ) → ℕ → ℕ
exact_start starts size i = sum_to starts (suc i) + sum_to size i

-- test 9 of entry i: its id did not exceed the one before, or passed 2^64 - 1
unfoldable pub bad_id_before : (ℕ → ℕ) → ℕ → Bool
bad_id_before steps zero = nat_le (2 ^ 64) (exact_id steps zero)
bad_id_before steps (suc i) = nat_le (exact_id steps (suc i)) (exact_id steps i) || nat_le (2 ^ 64) (exact_id steps (suc i))

-- test 10 of entry i
unfoldable pub foreign_before : Sharding → ℕ → ℕ → (ℕ → ℕ) → ℕ → Bool
foreign_before spec shard m steps i = foreign spec shard m (exact_id steps i)

-- test 11 of entry i: its chunk ended past the file, which has n bytes behind the shard index
unfoldable pub outside_before : ℕ → (ℕ → ℕ) → (ℕ → ℕ) → ℕ → Bool
outside_before n starts size i = nat_lt n (exact_start starts size i + size i)

unfoldable pub entry_tests_before : Sharding → ℕ → ℕ → List ℕ → ℕ → ℕ → List EntryTest
entry_tests_before spec shard m d s n =
    entry_test 9 0 (bad_id_before (id_steps d s))
    ∷ entry_test 10 0 (foreign_before spec shard m (id_steps d s))
    ∷ entry_test 11 1 (outside_before (length d) (start_steps d s n) (sizes d s n))
    ∷ []

-- the checks of minishard m, of k minishards from m on, and of a shard
unfoldable pub minishard_checks_before : Sharding → ℕ → List ℕ → List ℕ → ℕ → List Check
minishard_checks_before spec shard index d m =
    let s = entry_start_of index m in
    let e = entry_end_of index m in
    let n = entry_count s e in
    check 7 (bad_entry d s e) ∷ check 8 (bad_length s e) ∷ entry_checks (length index + s) n (entry_tests_before spec shard m d s n)

unfoldable pub minishards_checks_before : Sharding → ℕ → List ℕ → List ℕ → ℕ → ℕ → List Check
minishards_checks_before spec shard index d m zero = []
minishards_checks_before spec shard index d m (suc k) = minishard_checks_before spec shard index d m ++ minishards_checks_before spec shard index d (suc m) k

unfoldable pub shard_checks_before : Sharding → ℕ → List ℕ → List Check
shard_checks_before spec shard file =
    file_checks spec (no_such_shard spec shard) file
    ++ minishards_checks_before spec shard (index_part spec file) (data_part spec file) 0 (minishard_count_of spec)

-- none of them held: the shard passed; there was no mesh (RULES F16)
pub record PassedBefore (spec : Sharding) (shard : ℕ) (file : List ℕ) : Type 0 where
  pub volumes : spec.kind ≡ volume
  pub none : first_number (shard_checks_before spec shard file) ≡ 0
