-- What settling answers and leaves: the refusals of the check, with their position, then 22 unless the caller asks to drop unlisted bytes, then 13
-- (RULES U5, U6).
use Rattle.std.specs.Prelude.{ℕ, Bool, not, ◌&&◌, ◌||◌, List, [], ◌∷◌, ◌++◌, length, nat_lt, Ok, Err}
use Rattle.refusal.specs.Checks.{Check, check, answered, left, answered_at}
use Rattle.refusal.specs.Buffer.{over}
use Rattle.refusal.specs.Answers.{Answer, refuse}
use Rattle.refusal.specs.Table.{number_of}
use Rattle.sharding.specs.declared.Sharding.{Sharding}
use Rattle.shard.specs.index.Index.{most_shard_bytes}
use Rattle.shard.specs.File.{index_part, data_part, shard_checks}
use Rattle.unlisted.specs.ranges.Covered.{unlisted_bytes}
use Rattle.settled_form.specs.Content.{form_of, form_length, file_form, file_form_length}
use Rattle.refusal.specs.declared.CountAnswer.{CountAnswer}
use Rattle.refusal.specs.declared.CountAnswer.TheVariants.{Count, Refused, Faulty}

-- what a writer answered, as an answer of settling
abbrev pub answer_of : Answer ℕ → CountAnswer
answer_of (Ok n) = Count n
answer_of (Err k) = Refused (number_of k)

-- ---- a shard of two parts that passed the check: 22 and 13 are left

-- it has unlisted bytes, and the caller does not ask to drop them
unfoldable pub loses_bytes : Sharding → List ℕ → List ℕ → Bool → Bool
loses_bytes spec index d dropping = not dropping && nat_lt 0 (unlisted_bytes spec index d)

-- "22 unlisted bytes, after the check and before 13" (RULES U5)
unfoldable pub unlisted_check : Sharding → List ℕ → List ℕ → Bool → Check
unlisted_check spec index d dropping = check 22 (loses_bytes spec index d dropping)

-- "a settled form would exceed 1,073,741,824 bytes"
unfoldable pub length_check : Sharding → List ℕ → List ℕ → Check
length_check spec index d = check 13 (nat_lt most_shard_bytes (form_length spec index d))

unfoldable pub length_in : Sharding → List ℕ → List ℕ → Bool → Answer ℕ
length_in spec index d dropping = answered refuse (unlisted_check spec index d dropping ∷ length_check spec index d ∷ []) (Ok (form_length spec index d))

-- a form of n bytes is longer than the output or than 1 GiB
unfoldable pub too_long : ℕ → List ℕ → Bool
too_long n out = nat_lt (length out) n || nat_lt most_shard_bytes n

unfoldable pub settle_check : Sharding → List ℕ → List ℕ → List ℕ → Check
settle_check spec index d out = check 13 (too_long (form_length spec index d) out)

unfoldable pub settle_in : Sharding → List ℕ → List ℕ → Bool → List ℕ → Answer ℕ
settle_in spec index d dropping out = answered refuse (unlisted_check spec index d dropping ∷ settle_check spec index d out ∷ []) (Ok (form_length spec index d))

-- the output then: the form and, past it, what was there; refused, all that was there
unfoldable pub left_in : Sharding → List ℕ → List ℕ → Bool → List ℕ → List ℕ
left_in spec index d dropping out = left (unlisted_check spec index d dropping ∷ settle_check spec index d out ∷ []) (over (form_of spec index d) out) out

-- ---- a file: all that the check refuses, and then 22 and 13

unfoldable pub settled_length_checks : Sharding → ℕ → List ℕ → Bool → List Check
settled_length_checks spec shard file dropping =
    shard_checks spec shard file
    ++ (unlisted_check spec (index_part spec file) (data_part spec file) dropping ∷ length_check spec (index_part spec file) (data_part spec file) ∷ [])

-- RULES U6
unfoldable pub length_answer : Sharding → ℕ → List ℕ → Bool → CountAnswer
length_answer spec shard file dropping = answered_at Refused Faulty (settled_length_checks spec shard file dropping) (Count (file_form_length spec file))

unfoldable pub settle_checks : Sharding → ℕ → List ℕ → Bool → List ℕ → List Check
settle_checks spec shard file dropping out =
    shard_checks spec shard file
    ++ (unlisted_check spec (index_part spec file) (data_part spec file) dropping ∷ settle_check spec (index_part spec file) (data_part spec file) out ∷ [])

-- RULES U5
unfoldable pub settle_answer : Sharding → ℕ → List ℕ → Bool → List ℕ → CountAnswer
settle_answer spec shard file dropping out = answered_at Refused Faulty (settle_checks spec shard file dropping out) (Count (file_form_length spec file))

-- RULES U5
unfoldable pub settle_left : Sharding → ℕ → List ℕ → Bool → List ℕ → List ℕ
settle_left spec shard file dropping out = left (settle_checks spec shard file dropping out) (over (file_form spec file) out) out
