-- Lookup (RULES L1, R2): 1, 5, 6, then 7 to 11 of the chosen minishard, for a mesh also 15 to 17 and
-- 21, with their position, then 12.
use Rattle.std.specs.Prelude.{ℕ, ◌+◌, not, ◌||◌, List, [], ◌++◌, take, drop, ◌==◌}
use Rattle.refusal.specs.Checks.{Check, answered_at}
use Rattle.refusal.specs.Result.{Result, success, refused, faulty}
use Rattle.sharding.specs.declared.Sharding.{Sharding}
use Rattle.sharding.specs.Specification.{no_such_shard}
use Rattle.sharding.specs.placement.Place.{shard_of}
use Rattle.shard.specs.File.{index_part, data_part, file_checks}
use Rattle.lookup.specs.declared.id_search.LookupAnswer.{LookupAnswer}
use Rattle.lookup.specs.declared.id_search.LookupAnswer.TheVariants.{Found, Refused, Faulty}
use Rattle.lookup.specs.chosen_minishard.Chosen.{chosen_checks, chosen_chunk}

-- ---- in a file

-- RULES S7
unfoldable pub lookup_checks : Sharding → ℕ → List ℕ → ℕ → List Check
lookup_checks spec shard file id =
    file_checks spec (no_such_shard spec shard || not ((shard_of spec id) == shard)) file
    ++ chosen_checks spec shard (index_part spec file) (data_part spec file) id

-- RULES L1
unfoldable pub lookup_answer : Sharding → ℕ → List ℕ → ℕ → LookupAnswer
lookup_answer spec shard file id =
    answered_at Refused Faulty (lookup_checks spec shard file id) (chosen_chunk spec (index_part spec file) (data_part spec file) id)

-- where the bytes begin, and how many they are
abbrev pub lookup_result : LookupAnswer → Result (ℕ × ℕ)
lookup_result (Found start n) = success (start, n)
lookup_result (Refused k) = refused k
lookup_result (Faulty k p) = faulty k p

-- the part handed out: the bytes found, or, refused, the empty part at the file's start (RULES L2)
abbrev pub part_start : LookupAnswer → ℕ
part_start (Found start n) = start
part_start (Refused number) = 0
part_start (Faulty number position) = 0

abbrev pub part_end : LookupAnswer → ℕ
part_end (Found start n) = start + n
part_end (Refused number) = 0
part_end (Faulty number position) = 0

-- RULES L2
abbrev pub part_bytes : LookupAnswer → List ℕ → List ℕ
part_bytes (Found start n) file = take n (drop start file)
part_bytes (Refused number) file = []
part_bytes (Faulty number position) file = []
