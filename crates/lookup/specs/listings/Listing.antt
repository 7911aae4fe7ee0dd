-- The listing of a minishard, in stored order: three numbers for each entry (RULES L5, R2): 1, 5, 33, 6,
-- then 7 to 11 of that minishard, for a mesh also 15 to 17 and 21, with their position, then 13. 33 is this library's own.
use Rattle.std.specs.Prelude.{ℕ, not, List, [], ◌∷◌, ◌++◌, length}
use Rattle.refusal.specs.Checks.{Check, check, answered_at, left}
use Rattle.refusal.specs.Buffer.{room, over}
use Rattle.sharding.specs.declared.Sharding.{Sharding}
use Rattle.sharding.specs.Specification.{allowed, no_such_shard, no_such_minishard}
use Rattle.shard.specs.index.Index.{entry_start_of, entry_end_of, entry_count}
use Rattle.shard.specs.Checks.{minishard_checks}
use Rattle.shard.specs.File.{index_part, data_part, bad_file_length}
use Rattle.lookup.specs.entries.Entries.{listing_in}
use Rattle.refusal.specs.declared.CountAnswer.{CountAnswer}
use Rattle.refusal.specs.declared.CountAnswer.TheVariants.{Count, Refused, Faulty}

-- the listing of minishard m of a file
abbrev pub listing_of : Sharding → List ℕ → ℕ → List ℕ
listing_of spec file m = listing_in (index_part spec file) (data_part spec file) m

-- ---- how many chunks it lists

abbrev pub listed_count : Sharding → List ℕ → ℕ → ℕ
listed_count spec file m = entry_count (entry_start_of (index_part spec file) m) (entry_end_of (index_part spec file) m)

-- in a shard of two parts
unfoldable pub count_in : Sharding → ℕ → List ℕ → List ℕ → ℕ → CountAnswer
count_in spec shard index d m = answered_at Refused Faulty (minishard_checks spec shard index d m) (Count (entry_count (entry_start_of index m) (entry_end_of index m)))

-- 1, 5 and 33 of a call that asks for one minishard by its number (RULES L6)
unfoldable pub asked_checks : Sharding → ℕ → ℕ → List Check
asked_checks spec shard m = check 1 (not (allowed spec)) ∷ check 5 (no_such_shard spec shard) ∷ check 33 (no_such_minishard spec m) ∷ []

-- then 6 of the file, and the checks of that minishard
unfoldable pub count_checks : Sharding → ℕ → List ℕ → ℕ → List Check
count_checks spec shard file m =
    asked_checks spec shard m
    ++ (check 6 (bad_file_length spec (length file)) ∷ minishard_checks spec shard (index_part spec file) (data_part spec file) m)

-- how many entries there are (RULES L5)
unfoldable pub count_answer : Sharding → ℕ → List ℕ → ℕ → CountAnswer
count_answer spec shard file m = answered_at Refused Faulty (count_checks spec shard file m) (Count (listed_count spec file m))

-- ---- the listing in lent numbers

unfoldable pub listing_checks : Sharding → ℕ → List ℕ → ℕ → List ℕ → List Check
listing_checks spec shard file m out = count_checks spec shard file m ++ (room (listing_of spec file m) out ∷ [])

-- how many numbers were written (RULES L5)
unfoldable pub listing_answer : Sharding → ℕ → List ℕ → ℕ → List ℕ → CountAnswer
listing_answer spec shard file m out = answered_at Refused Faulty (listing_checks spec shard file m out) (Count (length (listing_of spec file m)))

-- what the numbers then are (RULES L5)
unfoldable pub listing_left : Sharding → ℕ → List ℕ → ℕ → List ℕ → List ℕ
listing_left spec shard file m out = left (listing_checks spec shard file m out) (over (listing_of spec file m) out) out
