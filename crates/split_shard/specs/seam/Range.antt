-- "a byte range of the joined file" (RULES P4), end excluded: "that part of the index file or of the data file, whichever holds it. An empty
-- range at the seam belongs to the data file."
use Rattle.std.specs.Prelude.{ℕ, not, List, [], ◌∷◌, ◌++◌, length}
use Rattle.refusal.specs.Checks.{Check, check, answered}
use Rattle.refusal.specs.Result.{Result, success, refused}
use Rattle.sharding.specs.declared.Sharding.{Sharding}
use Rattle.sharding.specs.Specification.{allowed}
use Rattle.shard.specs.File.{bad_file_length}
use Rattle.split_shard.specs.declared.held_range.RangeAnswer.{RangeAnswer}
use Rattle.split_shard.specs.declared.held_range.RangeAnswer.TheVariants.{InIndex, InData, Refused}
use Rattle.split_shard.specs.held_range.Held.{bad_range, held_range}
use Rattle.split_shard.specs.seam.Pair.{bad_seam}

-- "a range request tests 1, 23, 6, 24"
unfoldable pub range_checks : Sharding → List ℕ → List ℕ → ℕ → ℕ → List Check
range_checks spec index d start end =
    check 1 (not (allowed spec))
    ∷ check 23 (bad_seam spec index)
    ∷ check 6 (bad_file_length spec (length (index ++ d)))
    ∷ check 24 (bad_range (length index) (length (index ++ d)) start end)
    ∷ []

-- RULES P4
unfoldable pub range_answer : Sharding → List ℕ → List ℕ → ℕ → ℕ → RangeAnswer
range_answer spec index d start end = answered Refused (range_checks spec index d start end) (held_range (length index) start end)

-- the file, 0 for the index file and 1 for the data file; where the range begins in it, and how many bytes it has
abbrev pub range_result : RangeAnswer → Result (ℕ × ℕ × ℕ)
range_result (InIndex start n) = success (0, start, n)
range_result (InData start n) = success (1, start, n)
range_result (Refused k) = refused k
