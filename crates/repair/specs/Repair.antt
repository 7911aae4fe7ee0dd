-- What repair answers and leaves: 1, 5, 6 where it refuses both files, then by minishards what cannot be taken, then 13.
use Rattle.std.specs.Prelude.{ℕ, not, ◌&&◌, List, [], ◌∷◌, length}
use Rattle.refusal.specs.Choice.{pick}
use Rattle.refusal.specs.Checks.{Check, check, unless, answered, left}
use Rattle.refusal.specs.Buffer.{over}
use Rattle.sharding.specs.declared.Sharding.{Sharding}
use Rattle.sharding.specs.Specification.{allowed, no_such_shard}
use Rattle.shard.specs.File.{index_part, data_part, bad_file_length}
use Rattle.settle.specs.answers.Answers.{too_long}
use Rattle.repair.specs.form.Chosen.{repaired_form, repaired_length}
use Rattle.repair.specs.declared.RepairAnswer.{RepairAnswer}
use Rattle.repair.specs.declared.RepairAnswer.TheVariants.{Length, Refused, Faulty}
use Rattle.repair.specs.Trouble.{first_trouble}

-- ---- two copies of two parts each

-- "13 when the form would pass the output or 1 GiB"
unfoldable pub length_check : Sharding → ℕ → List ℕ → List ℕ → List ℕ → List ℕ → List ℕ → List Check
length_check spec shard ia da ib db out = check 13 (too_long (repaired_length spec shard ia da ib db) out) ∷ []

unfoldable pub repair_in : Sharding → ℕ → List ℕ → List ℕ → List ℕ → List ℕ → List ℕ → RepairAnswer
repair_in spec shard ia da ib db out =
    let f = first_trouble spec shard ia da ib db in
    unless (λ k. Faulty k f.minishard f.position) f.number
    (answered Refused (length_check spec shard ia da ib db out) (Length (repaired_length spec shard ia da ib db)))

-- the output then: the form and, past it, what was there; refused, all that was there
unfoldable pub left_in : Sharding → ℕ → List ℕ → List ℕ → List ℕ → List ℕ → List ℕ → List ℕ
left_in spec shard ia da ib db out =
    unless (λ k. out) (first_trouble spec shard ia da ib db).number
    (left (length_check spec shard ia da ib db out) (over (repaired_form spec shard ia da ib db) out) out)

-- ---- two files

-- "6 when both files are refused by 6"
unfoldable pub repair_checks : Sharding → ℕ → List ℕ → List ℕ → List Check
repair_checks spec shard a b =
    check 1 (not (allowed spec)) ∷ check 5 (no_such_shard spec shard) ∷ check 6 (bad_file_length spec (length a) && bad_file_length spec (length b)) ∷ []

-- "a file that 6 refuses contributes nothing": the other stands in its place
unfoldable pub or_other : Sharding → List ℕ → List ℕ → List ℕ
or_other spec file other = pick (bad_file_length spec (length file)) other file

abbrev pub first_index : Sharding → List ℕ → List ℕ → List ℕ
first_index spec a b = index_part spec (or_other spec a b)

abbrev pub first_data : Sharding → List ℕ → List ℕ → List ℕ
first_data spec a b = data_part spec (or_other spec a b)

unfoldable pub repair_answer : Sharding → ℕ → List ℕ → List ℕ → List ℕ → RepairAnswer
repair_answer spec shard a b out =
    answered Refused (repair_checks spec shard a b) (repair_in spec shard (first_index spec a b) (first_data spec a b) (first_index spec b a) (first_data spec b a) out)

unfoldable pub repair_left : Sharding → ℕ → List ℕ → List ℕ → List ℕ → List ℕ
repair_left spec shard a b out =
    left (repair_checks spec shard a b) (left_in spec shard (first_index spec a b) (first_data spec a b) (first_index spec b a) (first_data spec b a) out) out
