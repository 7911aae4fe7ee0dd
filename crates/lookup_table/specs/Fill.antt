-- The table of a minishard of a volume, from the same slices as the third call of a lookup by ranges (`lookup::ranges`) and with its checks. Only
-- the last differs: 13, too little room, stands in the place of 12, since no id is sought yet. An empty minishard has an empty table.
use Rattle.std.specs.Prelude.{ℕ, ◌+◌, ◌*◌, List, [], ◌∷◌, ◌++◌, length, nat_lt}
use Rattle.refusal.specs.Checks.{Check, check, answered_at, left}
use Rattle.refusal.specs.Buffer.{over}
use Rattle.sharding.specs.declared.Sharding.{Sharding}
use Rattle.sharding.specs.placement.Place.{minishard_of}
use Rattle.shard.specs.index.Index.{entry_start_of, entry_end_of, entry_count, id_steps, start_steps, sizes, id_at, start_at}
use Rattle.shard.specs.Checks.{entry_checks}
use Rattle.shard.specs.File.{index_length_of}
use Rattle.lookup.specs.row_judge.Rows.{row_tests}
use Rattle.lookup.specs.ranges.Steps.{call_checks, room, entry_faults, bad_slices}
use Rattle.index_sort.specs.declared.three_rows.Entry.{Entry}
use Rattle.index_sort.specs.phases.Rows.{sort_by_id}
use Rattle.lookup_table.specs.sorting.Table.{each, numbers_of}
use Rattle.refusal.specs.declared.CountAnswer.{CountAnswer}
use Rattle.refusal.specs.declared.CountAnswer.TheVariants.{Count, Refused, Faulty}

-- entry i of the n in a minishard index, behind a shard index of `base` bytes: its id, where its chunk lies in the file, how many bytes that has
abbrev pub listed : ℕ → List ℕ → ℕ → ℕ → Entry
listed base rows n i = record { id = id_at (id_steps rows 0) i; start = base + start_at (start_steps rows 0 n) (sizes rows 0 n) i; size = sizes rows 0 n i }

-- the table: three numbers for each of the n entries, by rising id
unfoldable pub table_of : ℕ → List ℕ → ℕ → List ℕ
table_of base rows n = numbers_of (sort_by_id (each (listed base rows n) 0 n))

-- how many entries the minishard index has of which `entry` tells
abbrev pub count_in : List ℕ → ℕ
count_in entry = entry_count (entry_start_of entry 0) (entry_end_of entry 0)

-- 1, 5, 6, 31, 7 to 11, 13: `out` has fewer than three numbers for each entry
unfoldable pub fill_checks : Sharding → ℕ → ℕ → ℕ → List ℕ → List ℕ → List ℕ → List Check
fill_checks spec shard id len entry rows out =
    let m = minishard_of spec id in
    let s = entry_start_of entry 0 in
    let e = entry_end_of entry 0 in
    let n = count_in entry in
    call_checks spec shard id len
    ++ (check 31 (bad_slices (room spec len) entry rows)
    ∷ entry_faults m (room spec len) s e
    (entry_checks (index_length_of spec + s) n (row_tests spec shard m (room spec len) rows n) ++ (check 13 (nat_lt (length out) (3 * n)) ∷ [])))

-- the answer: how many entries the table has, or the refusal
unfoldable pub fill_answer : Sharding → ℕ → ℕ → ℕ → List ℕ → List ℕ → List ℕ → CountAnswer
fill_answer spec shard id len entry rows out = answered_at Refused Faulty (fill_checks spec shard id len entry rows out) (Count (count_in entry))

-- what `out` then holds: the table at its front and past it what was there; on a refusal what it held before
unfoldable pub fill_left : Sharding → ℕ → ℕ → ℕ → List ℕ → List ℕ → List ℕ → List ℕ
fill_left spec shard id len entry rows out =
    left (fill_checks spec shard id len entry rows out) (over (table_of (index_length_of spec) rows (count_in entry)) out) out
