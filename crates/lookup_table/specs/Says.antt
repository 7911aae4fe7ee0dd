-- The parts of the call, as the code makes them.
use Rattle.std.specs.Prelude.{ℕ, ◌+◌, ◌*◌, ◌/◌, List, length, ◌==◌, nat_lt}
use Rattle.refusal.specs.Choice.{pick}
use Rattle.refusal.specs.Checks.{first_number, unless}
use Rattle.refusal.specs.Buffer.{over}
use Rattle.sharding.specs.declared.Sharding.{Sharding}
use Rattle.sharding.specs.placement.Place.{minishard_of}
use Rattle.shard.specs.index.Index.{entry_start_of, entry_end_of}
use Rattle.shard.specs.index.Tests.{entry_place, first_of}
use Rattle.shard.specs.Faults.{bad_length}
use Rattle.shard.specs.File.{index_length_of}
use Rattle.lookup.specs.row_judge.Rows.{row_tests}
use Rattle.lookup.specs.ranges.Steps.{call_checks, other_length, room, bad_bounds, bad_slices}
use Rattle.refusal.specs.declared.CountAnswer.{CountAnswer}
use Rattle.refusal.specs.declared.CountAnswer.TheVariants.{Count, Refused, Faulty}
use Rattle.lookup_table.specs.Fill.{table_of, count_in}

-- what the judge says, whatever is asked of the entries
pub data Verdict : Type 0 where
  passes : Verdict
  refuses : ℕ → Verdict
  faults : ℕ → ℕ → Verdict

-- an answer under a verdict
abbrev pub told : {A : Type 0} → (ℕ → A) → (ℕ → ℕ → A) → Verdict → A → A
told r f passes a = a
told r f (refuses k) a = r k
told r f (faults k p) a = f k p

-- of n entries at the place `at` of the file: 9, 10, 11
unfoldable pub entries_judged : Sharding → ℕ → ℕ → ℕ → ℕ → ℕ → List ℕ → Verdict
entries_judged spec shard id len at n rows =
    let f = first_of at n (row_tests spec shard (minishard_of spec id) (room spec len) rows n) in
    unless (λ k. faults k f.position) f.number passes

-- of a minishard index of `count` bytes
unfoldable pub rows_judged : Sharding → ℕ → ℕ → ℕ → ℕ → ℕ → List ℕ → Verdict
rows_judged spec shard id len at count rows = pick (other_length rows count) (refuses 31) (entries_judged spec shard id len at (count / 24) rows)

-- of the two slices
unfoldable pub judged : Sharding → ℕ → ℕ → ℕ → List ℕ → List ℕ → Verdict
judged spec shard id len entry rows =
    let s = entry_start_of entry 0 in
    let e = entry_end_of entry 0 in
    let p = entry_place (minishard_of spec id) in
    unless refuses (first_number (call_checks spec shard id len))
    (pick (bad_slices (room spec len) entry rows) (refuses 31)
    (pick (bad_bounds (room spec len) s e) (faults 7 p)
    (pick (bad_length s e) (faults 8 p) (entries_judged spec shard id len (index_length_of spec + s) (count_in entry) rows))))

-- ---- the answer and what `out` holds, of n entries under a verdict

unfoldable pub fill_says : Verdict → ℕ → List ℕ → CountAnswer
fill_says v n out = told Refused Faulty v (pick (nat_lt (length out) (3 * n)) (Refused 13) (Count n))

unfoldable pub fill_holds : Verdict → ℕ → List ℕ → ℕ → List ℕ → List ℕ
fill_holds v base rows n out = told (λ k. out) (λ k p. out) v (pick (nat_lt (length out) (3 * n)) out (over (table_of base rows n) out))

-- what the second call of a lookup by ranges refused, with 12 where the minishard is empty
unfoldable pub empty_or : ℕ → CountAnswer
empty_or number = pick (number == 12) (Count 0) (Refused number)
