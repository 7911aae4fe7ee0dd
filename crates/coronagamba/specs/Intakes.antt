-- An intake across the C border: what the lent numbers hold afterwards.
use Rattle.std.specs.Prelude.{ℕ, List, set}
use Rattle.intake.specs.declared.state.Intake.{Intake}
use Rattle.refusal.specs.Answers.{Answer}
use Rattle.intake.specs.declared.Closed.{Closed}
use Rattle.intake.specs.numbers.Numbers.{numbers_of}
use Rattle.intake.specs.Calls.{intake_result, close_result}
use Rattle.coronagamba.specs.word.Word.{after}

-- "A refused call changes neither state nor buffers"
unfoldable pub state_after_of : Answer Intake → List ℕ → List ℕ
state_after_of a before = after numbers_of (intake_result a) before

-- after a part two numbers are others, where the next byte goes and how many are owed; so the row is that of the new state (`part-numbers`)
unfoldable pub part_after : Answer Intake → List ℕ → List ℕ
part_after a before = after (λ (s : Intake). set (set before 12 s.next) 13 s.owed) (intake_result a) before

unfoldable pub closed_after : Answer Closed → List ℕ → List ℕ
closed_after a before = after (λ (v : Intake × ℕ). numbers_of v.0) (close_result a) before

unfoldable pub shard_length_after : Answer Closed → ℕ → ℕ
shard_length_after a before = after (λ (v : Intake × ℕ). v.1) (close_result a) before
