-- What each call of an intake answers and leaves (RULES N1 to N5): "Data goes to its final place in the output at once". Places count from the end
-- of the shard index.
use Rattle.std.specs.Prelude.{ℕ, ◌+◌, ◌*◌, List, length, replicate, Ok, Err}
use Rattle.refusal.specs.Checks.{answered, left}
use Rattle.refusal.specs.Result.{Result, success, refused}
use Rattle.endian.specs.Place.{paste}
use Rattle.sharding.specs.declared.Sharding.{Sharding}
use Rattle.sharding.specs.placement.Place.{minishard_of}
use Rattle.shard.specs.File.{index_length_of}
use Rattle.intake.specs.waiting.Held.{pair}
use Rattle.intake.specs.declared.state.Intake.{Intake}
use Rattle.intake.specs.state.State.{announced_length}
use Rattle.intake.specs.call_tests.Tests.{count_in}
use Rattle.intake.specs.admission.Refusals.{open_checks, announce_checks, part_checks, close_checks}
use Rattle.intake.specs.steps.Steps.{ended_left, turned_left, opened, announced, taken, closed}
use Rattle.refusal.specs.Answers.{Answer, refuse}
use Rattle.refusal.specs.Table.{number_of}
use Rattle.intake.specs.declared.Closed.{Closed}

-- ---- open: "open a new volume shard"

-- RULES N2
unfoldable pub open_answer : Sharding → ℕ → List ℕ → List ℕ → Answer Intake
open_answer spec shard out w = answered refuse (open_checks spec shard (length out)) (Ok (opened spec shard (length out) (length w)))

-- the shard index, with an entry 0, 0 for each minishard: none has a chunk yet (RULES N2)
unfoldable pub open_left : Sharding → ℕ → List ℕ → List ℕ
open_left spec shard out = left (open_checks spec shard (length out)) (paste 0 (replicate (index_length_of spec) 0) out) out

-- ---- announce: "announce an id and its size"

-- RULES N3
unfoldable pub announce_answer : Intake → ℕ → ℕ → List ℕ → List ℕ → Answer Intake
announce_answer s id size out w = answered refuse (announce_checks s id size (length out) w) (Ok (announced s id size))

-- RULES N3
unfoldable pub announce_left : Intake → ℕ → ℕ → List ℕ → List ℕ → List ℕ
announce_left s id size out w = left (announce_checks s id size (length out) w) (turned_left s (minishard_of s.spec id) out w) out

-- the second buffer: id and size behind those of the chunks of its minishard (RULES N3)
unfoldable pub announce_waiting : Intake → ℕ → ℕ → List ℕ → List ℕ → List ℕ
announce_waiting s id size out w =
    left (announce_checks s id size (length out) w) (paste (16 * count_in s (minishard_of s.spec id)) (pair id size) w) w

-- ---- part: "hand over its bytes in successive parts of any lengths"

-- RULES N4
unfoldable pub part_answer : Intake → List ℕ → List ℕ → List ℕ → Answer Intake
part_answer s bytes out w = answered refuse (part_checks s (length bytes) (length out) w) (Ok (taken s (length bytes)))

-- RULES N4
unfoldable pub part_left : Intake → List ℕ → List ℕ → List ℕ → List ℕ
part_left s bytes out w = left (part_checks s (length bytes) (length out) w) (paste (index_length_of s.spec + s.next) bytes out) out

-- ---- close: "the close reports the length"

-- a success: the state afterwards, and the length
abbrev pub closes_with : Intake → ℕ → Answer Closed
closes_with s n = Ok (record { state = s; length = n })

-- RULES N5
unfoldable pub close_answer : Intake → List ℕ → List ℕ → Answer Closed
close_answer s out w = answered refuse (close_checks s (length out) w) (closes_with (closed s) (announced_length s))

-- RULES N5
unfoldable pub close_left : Intake → List ℕ → List ℕ → List ℕ
close_left s out w = left (close_checks s (length out) w) (ended_left s out w) out

-- ---- what the answers tell

-- the next state
abbrev pub intake_result : Answer Intake → Result Intake
intake_result (Ok state) = success state
intake_result (Err k) = refused (number_of k)

-- the state afterwards, and the shard's length
abbrev pub close_result : Answer Closed → Result (Intake × ℕ)
close_result (Ok c) = success (c.state, c.length)
close_result (Err k) = refused (number_of k)
