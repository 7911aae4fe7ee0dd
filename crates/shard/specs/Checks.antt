-- The tests of minishards as checks of a call (RULES F12, F13: lower numbers first; within a minishard each test runs over all
-- entries before the next, and 7 to 11, for a mesh also 15 to 17 and 21, are finished for one minishard before the next).
use Rattle.std.specs.Prelude.{ℕ, zero, suc, ◌+◌, List, [], ◌∷◌, ◌++◌, length}
use Rattle.refusal.specs.Checks.{Check, check_at}
use Rattle.endian.specs.Range.{any_below}
use Rattle.sharding.specs.declared.Sharding.{Sharding}
use Rattle.shard.specs.index.Index.{entry_start_of, entry_end_of, entry_count}
use Rattle.shard.specs.index.Tests.{EntryTest, entry_place, test_place}
use Rattle.shard.specs.Faults.{bad_entry, bad_length, entry_tests}

-- each test over all n entries of the minishard index at p
unfoldable pub entry_checks : ℕ → ℕ → List EntryTest → List Check
entry_checks p n [] = []
entry_checks p n (t ∷ ts) = check_at t.number (any_below n t.fails) (test_place p n t) ∷ entry_checks p n ts

-- 7, 8 and the tests over entries of minishard m
unfoldable pub minishard_checks : Sharding → ℕ → List ℕ → List ℕ → ℕ → List Check
minishard_checks spec shard index d m =
    let s = entry_start_of index m in
    let e = entry_end_of index m in
    let n = entry_count s e in
    check_at 7 (bad_entry d s e) (entry_place m) ∷ check_at 8 (bad_length s e) (entry_place m) ∷ entry_checks (length index + s) n (entry_tests spec shard m d s n)

-- those of k minishards from m on, in turn
unfoldable pub minishards_checks : Sharding → ℕ → List ℕ → List ℕ → ℕ → ℕ → List Check
minishards_checks spec shard index d m zero = []
minishards_checks spec shard index d m (suc k) = minishard_checks spec shard index d m ++ minishards_checks spec shard index d (suc m) k
