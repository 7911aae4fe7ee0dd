-- A lookup in three range reads (source 002: the entry in the shard index, the minishard index, the chunk). Each call is given the specification, the
-- shard number, the id, the length of the file and the bytes that the calls before it asked for. A range is where bytes lie in the file and how many they are.
-- Numbers and positions are those of the plain lookup (RULES L1, R2, R3); 31 is new.
use Rattle.std.specs.Prelude.{ℕ, ◌+◌, ◌-◌, Bool, not, ◌&&◌, ◌||◌, List, [], ◌∷◌, ◌++◌, length, ◌==◌, nat_lt}
use Rattle.refusal.specs.Checks.{Check, check, check_at, answered, answered_at}
use Rattle.sharding.specs.declared.Sharding.{Sharding}
use Rattle.sharding.specs.Specification.{is_mesh, allowed, no_such_shard}
use Rattle.sharding.specs.placement.Place.{shard_of, minishard_of}
use Rattle.shard.specs.index.Index.{entry_start_of, entry_end_of, entry_count}
use Rattle.shard.specs.index.Tests.{entry_place}
use Rattle.shard.specs.Faults.{bad_length}
use Rattle.shard.specs.Checks.{entry_checks}
use Rattle.shard.specs.File.{index_length_of, bad_file_length}
use Rattle.lookup.specs.declared.id_search.LookupAnswer.{LookupAnswer}
use Rattle.lookup.specs.declared.id_search.LookupAnswer.TheVariants.{Found, Refused, Faulty}
use Rattle.lookup.specs.id_search.Search.{not_listed, chunk_of}
use Rattle.lookup.specs.row_judge.Rows.{row_tests}

-- ---- what every call tests first, from numbers alone

-- 1, 5 and 6 of a file of `len` bytes, as the plain lookup; a mesh is refused with 1. Its minishard is judged by every manifest that it lists, too. To
-- answer a mesh, a call between the second and the third would name the range of chunk i (`end_at` is tested by 11 first), another would take that
-- manifest's bytes and carry on, in plain numbers, the first entry that failed each of 15, 16, 17 and 21; the last would put these behind 11, in
-- the order of `manifest_tests`.
unfoldable pub call_checks : Sharding → ℕ → ℕ → ℕ → List Check
call_checks spec shard id len =
    check 1 (not (allowed spec) || is_mesh spec)
    ∷ check 5 (no_such_shard spec shard || not ((shard_of spec id) == shard))
    ∷ check 6 (bad_file_length spec len)
    ∷ []

-- a slice has another length than the range that was asked for: 31, right after 6
unfoldable pub other_length : List ℕ → ℕ → Bool
other_length slice n = not (length slice == n)

-- ---- the first call

-- the range of the id's entry in the shard index
unfoldable pub entry_range : Sharding → ℕ → ℕ → ℕ → LookupAnswer
entry_range spec shard id len = answered Refused (call_checks spec shard id len) (Found (entry_place (minishard_of spec id)) 16)

-- ---- the second call: `entry` has the 16 bytes of that range

-- how many bytes the file has behind the shard index
abbrev pub room : Sharding → ℕ → ℕ
room spec len = len - index_length_of spec

-- test 7, of a file that has n bytes there: start after end, or start before end and its end past the file (RULES F7)
unfoldable pub bad_bounds : ℕ → ℕ → ℕ → Bool
bad_bounds n s e = nat_lt e s || (nat_lt s e && nat_lt n e)

-- 7 and 8 of the entry, which tells s and e, of minishard m
abbrev pub entry_faults : ℕ → ℕ → ℕ → ℕ → List Check → List Check
entry_faults m n s e rest = check_at 7 (bad_bounds n s e) (entry_place m) ∷ check_at 8 (bad_length s e) (entry_place m) ∷ rest

-- the range of the minishard index, which is not empty, or else 12
unfoldable pub index_range : Sharding → ℕ → ℕ → ℕ → List ℕ → LookupAnswer
index_range spec shard id len entry =
    let s = entry_start_of entry 0 in
    let e = entry_end_of entry 0 in
    answered_at Refused Faulty
    (call_checks spec shard id len
    ++ (check 31 (other_length entry 16) ∷ entry_faults (minishard_of spec id) (room spec len) s e (check 12 (s == e) ∷ [])))
    (Found (index_length_of spec + s) (e - s))

-- ---- the third call: `entry` as before, and `rows` has the bytes of the minishard index

-- the second call names a range
abbrev pub named : ℕ → ℕ → ℕ → Bool
named n s e = not (bad_bounds n s e || (bad_length s e || s == e))

-- 31 of the two slices; of `rows` only where a range was named for them
unfoldable pub bad_slices : ℕ → List ℕ → List ℕ → Bool
bad_slices n entry rows =
    let s = entry_start_of entry 0 in
    let e = entry_end_of entry 0 in
    other_length entry 16 || (named n s e && other_length rows (e - s))

-- 1, 5, 6, 31, 7 to 11, 12
unfoldable pub chunk_checks : Sharding → ℕ → ℕ → ℕ → List ℕ → List ℕ → List Check
chunk_checks spec shard id len entry rows =
    let m = minishard_of spec id in
    let s = entry_start_of entry 0 in
    let e = entry_end_of entry 0 in
    let n = entry_count s e in
    call_checks spec shard id len
    ++ (check 31 (bad_slices (room spec len) entry rows)
    ∷ entry_faults m (room spec len) s e
    (entry_checks (index_length_of spec + s) n (row_tests spec shard m (room spec len) rows n) ++ (not_listed rows 0 n id ∷ [])))

-- the range of the chunk, the plain lookup's answer
unfoldable pub chunk_range : Sharding → ℕ → ℕ → ℕ → List ℕ → List ℕ → LookupAnswer
chunk_range spec shard id len entry rows =
    answered_at Refused Faulty (chunk_checks spec shard id len entry rows)
    (chunk_of (index_length_of spec) rows 0 (entry_count (entry_start_of entry 0) (entry_end_of entry 0)) id)
