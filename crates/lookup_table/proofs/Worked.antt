-- The worked shard of RULES W1: 85 bytes, entries 5,53 and 0,0, rows 4,6 / 0,0 / 2,3; and the same two entries in falling order of their ids.
use Rattle.std.proofs.Common.{◌≡◌, ℕ, List, [], ◌∷◌, refl}
use Rattle.refusal.specs.Checks.{first_number, first_position, unless}
use Rattle.endian.specs.Little.{le, le_at, row}
use Rattle.endian.specs.Range.{sum_to, any_below, first}
use Rattle.duplicate_ids.specs.Twice.{repeats}
use Rattle.sharding.specs.declared.Sharding.{Sharding}
use Rattle.sharding.specs.Specification.{allowed}
use Rattle.sharding.specs.placement.Place.{hashed_id, shard_of, minishard_of}
use Rattle.shard.specs.index.Index.{id_at, start_at}
use Rattle.shard.specs.Faults.{bad_length, foreign, foreign_at, ends_past}
use Rattle.shard.specs.Checks.{entry_checks}
use Rattle.shard.specs.File.{bad_file_length}
use Rattle.lookup.specs.declared.id_search.LookupAnswer.{LookupAnswer}
use Rattle.lookup.specs.declared.id_search.LookupAnswer.TheVariants as lookup
use Rattle.lookup.specs.row_judge.Rows.{row_tests}
use Rattle.lookup.specs.ranges.Steps.{call_checks, other_length, bad_bounds, bad_slices}
use Rattle.settled_form.specs.Sorted.{not_above, insert_by, sort_by}
use Rattle.lookup_table.specs.sorting.Table.{each, numbers_of}
use Rattle.lookup_table.specs.finding.Find.{has_id, table_answer}
use Rattle.refusal.specs.declared.CountAnswer.{CountAnswer}
use Rattle.refusal.specs.declared.CountAnswer.TheVariants.{Count, Refused, Faulty}
use Rattle.lookup_table.specs.Fill.{table_of, fill_checks, fill_answer, fill_left}

abbrev pub spec : Sharding
spec = record { preshift = 0; hash = 0; minishard_bits = 1; shard_bits = 0; kind = 0 }

unfoldable pub entry : List ℕ
entry = row (5 ∷ 53 ∷ [])

unfoldable pub rows : List ℕ
rows = row (4 ∷ 6 ∷ 0 ∷ 0 ∷ 2 ∷ 3 ∷ [])

-- ids 10 and 4, whose step is 2^64 - 6
unfoldable pub falling : List ℕ
falling = row (10 ∷ 18446744073709551610 ∷ 2 ∷ 18446744073709551611 ∷ 3 ∷ 2 ∷ [])

-- seven numbers
unfoldable pub lent : List ℕ
lent = 1 ∷ 2 ∷ 3 ∷ 4 ∷ 5 ∷ 6 ∷ 7 ∷ []

abbrev pub fills : List CountAnswer
fills =
    fill_answer spec 0 10 85 entry rows lent
    ∷ fill_answer spec 0 10 85 entry falling lent
    ∷ fill_answer spec 0 7 85 (row (0 ∷ 0 ∷ [])) [] []
    ∷ fill_answer spec 0 10 85 entry rows (1 ∷ 2 ∷ 3 ∷ 4 ∷ 5 ∷ [])
    ∷ fill_answer spec 0 10 85 entry (row (4 ∷ 6 ∷ 0 ∷ [])) lent
    ∷ fill_answer spec 0 7 84 entry [] lent
    ∷ fill_answer spec 1 10 85 entry rows lent
    ∷ []

abbrev pub tables : List (List ℕ)
tables = fill_left spec 0 10 85 entry rows lent ∷ fill_left spec 0 10 85 entry falling lent ∷ fill_left spec 0 7 84 entry [] lent ∷ []

abbrev pub found : List LookupAnswer
found = table_answer (4 ∷ 32 ∷ 2 ∷ 10 ∷ 34 ∷ 3 ∷ []) 2 10 ∷ table_answer (4 ∷ 32 ∷ 2 ∷ 10 ∷ 34 ∷ 3 ∷ []) 2 6 ∷ []

-- filled with two entries, in either order; an empty table; 13, 31, 7 with its position, 5
pub filled : fills ≡ Count 2 ∷ Count 2 ∷ Count 0 ∷ Refused 13 ∷ Refused 31 ∷ Faulty 7 16 ∷ Refused 5 ∷ []
unfolding entry rows falling lent first_number first_position unless le le_at row sum_to any_below first repeats allowed hashed_id shard_of minishard_of id_at start_at bad_length foreign foreign_at ends_past entry_checks bad_file_length row_tests call_checks other_length bad_bounds bad_slices fill_checks fill_answer
filled = refl

-- the table by rising id, and the seventh number as it was; a refusal leaves all
pub held : tables ≡ (4 ∷ 32 ∷ 2 ∷ 10 ∷ 34 ∷ 3 ∷ 7 ∷ []) ∷ (4 ∷ 32 ∷ 2 ∷ 10 ∷ 34 ∷ 3 ∷ 7 ∷ []) ∷ lent ∷ []
unfolding entry rows falling lent first_number first_position unless le le_at row sum_to any_below first repeats allowed hashed_id shard_of minishard_of id_at start_at bad_length foreign foreign_at ends_past entry_checks bad_file_length row_tests call_checks other_length bad_bounds bad_slices fill_checks fill_left not_above insert_by sort_by each numbers_of table_of
held = refl

pub searched : found ≡ lookup.Found 34 3 ∷ lookup.Refused 12 ∷ []
unfolding first_number unless any_below first has_id table_answer
searched = refl
