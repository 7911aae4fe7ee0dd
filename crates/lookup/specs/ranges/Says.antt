-- The parts of the second and the third answer, as the code makes them: what an entry says, and what a minishard index says.
use Rattle.std.specs.Prelude.{◌≡◌, ℕ, ◌+◌, ◌-◌, ◌/◌, ◌≤◌, List, ◌==◌}
use Rattle.refusal.specs.Choice.{pick}
use Rattle.refusal.specs.Checks.{first_number, unless}
use Rattle.sharding.specs.declared.Sharding.{Sharding}
use Rattle.sharding.specs.placement.Place.{minishard_of}
use Rattle.shard.specs.index.Index.{entry_start_of, entry_end_of}
use Rattle.shard.specs.index.Tests.{entry_place, first_of}
use Rattle.shard.specs.Faults.{bad_length}
use Rattle.shard.specs.File.{index_length_of}
use Rattle.lookup.specs.declared.id_search.LookupAnswer.{LookupAnswer}
use Rattle.lookup.specs.declared.id_search.LookupAnswer.TheVariants.{Found, Refused, Faulty}
use Rattle.lookup.specs.id_search.Search.{found_in}
use Rattle.lookup.specs.row_judge.Rows.{row_tests}
use Rattle.lookup.specs.ranges.Steps.{call_checks, other_length, room, bad_bounds}

-- an entry that tells s and e: 7, 8, 12 or the range
unfoldable pub bounds_say : Sharding → ℕ → ℕ → ℕ → ℕ → LookupAnswer
bounds_say spec id len s e =
    let p = entry_place (minishard_of spec id) in
    pick (bad_bounds (room spec len) s e) (Faulty 7 p) (pick (bad_length s e) (Faulty 8 p) (pick (s == e) (Refused 12) (Found (index_length_of spec + s) (e - s))))

abbrev pub entry_says : Sharding → ℕ → ℕ → List ℕ → LookupAnswer
entry_says spec id len entry = bounds_say spec id len (entry_start_of entry 0) (entry_end_of entry 0)

-- n entries at the place `at` of the file: 9, 10, 11, 12 or the chunk
unfoldable pub entries_say : Sharding → ℕ → ℕ → ℕ → ℕ → ℕ → List ℕ → LookupAnswer
entries_say spec shard id len at n rows =
    let f = first_of at n (row_tests spec shard (minishard_of spec id) (room spec len) rows n) in
    unless (λ k. Faulty k f.position) f.number (found_in (index_length_of spec) rows 0 n id)

-- a minishard index of `count` bytes
unfoldable pub rows_say : Sharding → ℕ → ℕ → ℕ → ℕ → ℕ → List ℕ → LookupAnswer
rows_say spec shard id len at count rows = pick (other_length rows count) (Refused 31) (entries_say spec shard id len at (count / 24) rows)

-- 1, 5 and 6 do not hold, and the minishard index lies within the file
pub record Pointed (spec : Sharding) (shard id len at count : ℕ) : Type 0 where
  pub called : first_number (call_checks spec shard id len) ≡ 0
  pub inside : at + count ≤ len
