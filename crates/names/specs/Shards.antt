-- The names of a shard's files (RULES S6).
use Rattle.std.specs.Prelude.{ℕ, ◌+◌, ◌/◌, max, not, List, [], ◌∷◌, ◌++◌, length, Ok}
use Rattle.refusal.specs.Checks.{Check, check, answered, left}
use Rattle.refusal.specs.Buffer.{room, over}
use Rattle.refusal.specs.Answers.{Answer, refuse}
use Rattle.sharding.specs.Specification.{shard_bits_of, allowed, no_such_shard}
use Rattle.sharding.specs.declared.Sharding.{Sharding}
use Rattle.names.specs.digits.Digits.{digits}
use Rattle.names.specs.declared.FileKind.{FileKind}
use Rattle.names.specs.declared.FileKind.TheVariants.{Shard, Index, Data}

-- "ceil(shard_bits/4) digits and never empty" (RULES S6)
unfoldable pub shard_digits : Sharding → ℕ
shard_digits spec = max 1 ((shard_bits_of spec + 3) / 4)

-- how the names of the files end: ".shard", and of the earlier two-file edition ".index" and ".data" (source 002) (RULES S6)
abbrev pub suffix_of : FileKind → List ℕ
suffix_of Shard = 46 ∷ 115 ∷ 104 ∷ 97 ∷ 114 ∷ 100 ∷ []
suffix_of Index = 46 ∷ 105 ∷ 110 ∷ 100 ∷ 101 ∷ 120 ∷ []
suffix_of Data = 46 ∷ 100 ∷ 97 ∷ 116 ∷ 97 ∷ []

-- "the shard number in lowercase hexadecimal, padded [..], then `.shard`", or then as the other files of a shard end (RULES S6)
unfoldable pub file_name : FileKind → Sharding → ℕ → List ℕ
file_name kind spec shard = digits 16 (shard_digits spec) shard ++ suffix_of kind

-- the refusals of a call that names a file: 1, then 5, then 13
unfoldable pub file_name_checks : FileKind → Sharding → ℕ → List ℕ → List Check
file_name_checks kind spec shard out =
    check 1 (not (allowed spec))
    ∷ check 5 (no_such_shard spec shard)
    ∷ room (file_name kind spec shard) out
    ∷ []

-- it answers the name's length
unfoldable pub file_name_answer : FileKind → Sharding → ℕ → List ℕ → Answer ℕ
file_name_answer kind spec shard out = answered refuse (file_name_checks kind spec shard out) (Ok (length (file_name kind spec shard)))

-- and leaves the name at the front of the buffer
unfoldable pub file_name_left : FileKind → Sharding → ℕ → List ℕ → List ℕ
file_name_left kind spec shard out = left (file_name_checks kind spec shard out) (over (file_name kind spec shard) out) out

-- ---- of the file that holds a shard whole

abbrev pub shard_name : Sharding → ℕ → List ℕ
shard_name spec shard = file_name Shard spec shard

abbrev pub shard_name_checks : Sharding → ℕ → List ℕ → List Check
shard_name_checks spec shard out = file_name_checks Shard spec shard out

abbrev pub shard_name_answer : Sharding → ℕ → List ℕ → Answer ℕ
shard_name_answer spec shard out = file_name_answer Shard spec shard out

abbrev pub shard_name_left : Sharding → ℕ → List ℕ → List ℕ
shard_name_left spec shard out = file_name_left Shard spec shard out
