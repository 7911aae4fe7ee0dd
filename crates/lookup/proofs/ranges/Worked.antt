-- The worked shard of RULES W1 by ranges: 85 bytes, entries 5,53 and 0,0, rows 4,6 / 0,0 / 2,3; id 10 is bytes 34 up to 37, ids 6 and 7 give 12.
use Rattle.std.proofs.Common.{◌≡◌, ℕ, List, [], ◌∷◌, refl}
use Rattle.refusal.specs.Checks.{first_number, first_position, unless}
use Rattle.endian.specs.Little.{le, le_at, row}
use Rattle.endian.specs.Range.{sum_to, any_below, first}
use Rattle.duplicate_ids.specs.Twice.{repeats}
use Rattle.sharding.specs.declared.Sharding.{Sharding}
use Rattle.sharding.specs.Specification.{allowed}
use Rattle.sharding.specs.placement.Place.{hashed_id, shard_of, minishard_of}
use Rattle.shard.specs.index.Index.{id_at, start_at}
use Rattle.shard.specs.Faults.{bad_length, foreign, foreign_at, ends_past}
use Rattle.shard.specs.Checks.{entry_checks}
use Rattle.shard.specs.File.{bad_file_length}
use Rattle.lookup.specs.declared.id_search.LookupAnswer.{LookupAnswer}
use Rattle.lookup.specs.declared.id_search.LookupAnswer.TheVariants.{Found, Refused, Faulty}
use Rattle.lookup.specs.id_search.Search.{is_id, chunk_of}
use Rattle.lookup.specs.row_judge.Rows.{row_tests}
use Rattle.lookup.specs.ranges.Steps.{call_checks, other_length, bad_bounds, entry_range, index_range, bad_slices, chunk_checks, chunk_range}

abbrev pub spec : Sharding
spec = record { preshift = 0; hash = 0; minishard_bits = 1; shard_bits = 0; kind = 0 }

unfoldable pub entry : List ℕ
entry = row (5 ∷ 53 ∷ [])

unfoldable pub rows : List ℕ
rows = row (4 ∷ 6 ∷ 0 ∷ 0 ∷ 2 ∷ 3 ∷ [])

-- what the calls answer: the three ranges of id 10; 12 of id 6, listed nowhere, and of id 7, whose minishard is empty; 31 of a slice that is too short; 7 of an
-- entry that ends past the file, at its position; 5 of another shard
abbrev pub answers : List LookupAnswer
answers =
    entry_range spec 0 10 85
    ∷ index_range spec 0 10 85 entry
    ∷ chunk_range spec 0 10 85 entry rows
    ∷ chunk_range spec 0 6 85 entry rows
    ∷ entry_range spec 0 7 85
    ∷ index_range spec 0 7 85 (row (0 ∷ 0 ∷ []))
    ∷ index_range spec 0 10 85 (row (5 ∷ []))
    ∷ chunk_range spec 0 10 85 entry (row (4 ∷ 6 ∷ 0 ∷ []))
    ∷ index_range spec 0 7 84 entry
    ∷ chunk_range spec 0 7 84 entry []
    ∷ entry_range spec 1 10 85
    ∷ []

pub worked : answers
    ≡ Found 0 16
    ∷ Found 37 48
    ∷ Found 34 3
    ∷ Refused 12
    ∷ Found 16 16
    ∷ Refused 12
    ∷ Refused 31
    ∷ Refused 31
    ∷ Faulty 7 16
    ∷ Faulty 7 16
    ∷ Refused 5
    ∷ []
unfolding entry rows first_number first_position unless le le_at row sum_to any_below first repeats allowed hashed_id shard_of minishard_of id_at start_at bad_length foreign foreign_at ends_past entry_checks bad_file_length is_id chunk_of row_tests call_checks other_length bad_bounds entry_range index_range bad_slices chunk_checks chunk_range
worked = refl
