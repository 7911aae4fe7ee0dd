-- What an answer tells, in one shape for all calls: each kind of answer has a definition that gives it (RULES R1 to R3).
use Rattle.std.specs.Prelude.{ℕ, ◌≡◌, ◌⊎◌, List, Ok, Err}
use Rattle.std.proofs.Math.Option.{Option, none, some}
use Rattle.refusal.specs.Table.{InTable, number_of}
use Rattle.refusal.specs.Checks.{Check, first_number, first_position}
use Rattle.refusal.specs.Answers.{Answer}
use Rattle.refusal.specs.declared.CountAnswer.{CountAnswer}
use Rattle.refusal.specs.declared.CountAnswer.TheVariants as C

-- the refusal's number, 0 for success; the minishard and the byte position that the refusal names, where it names them; what a success gives
pub record Result (B : Type 0) : Type 0 where
  pub number : ℕ
  pub minishard : Option ℕ
  pub position : Option ℕ
  pub values : Option B

abbrev pub success : {B : Type 0} → B → Result B
success v = record { number = 0; minishard = none; position = none; values = some v }

abbrev pub refused : {B : Type 0} → ℕ → Result B
refused k = record { number = k; minishard = none; position = none; values = none }

-- the fault of a minishard, with its position, and with the minishard too
abbrev pub faulty : {B : Type 0} → ℕ → ℕ → Result B
faulty k p = record { number = k; minishard = none; position = some p; values = none }

abbrev pub faulty_in : {B : Type 0} → ℕ → ℕ → ℕ → Result B
faulty_in k m p = record { number = k; minishard = some m; position = some p; values = none }

-- the result of a call is decided by its checks, in their fixed order
pub record DecidedBy {B : Type 0} (checks : List Check) (r : Result B) : Type 0 where
  -- its number is that of the first check that holds, and 0 where none does (RULES R2)
  pub number : r.number ≡ first_number checks
  -- it names the position that this check carries, and no other (RULES R3)
  pub position : r.position ≡ first_position checks
  -- a success gives its values; a refusal gives none, and its number is one of the table (RULES R1)
  pub given : ((r.number ≡ 0) × (r.values ≡ none → ⊥)) ⊎ (InTable r.number × (r.values ≡ none))

-- ---- the answers of this crate

-- how many were written
abbrev pub written_result : Answer ℕ → Result ℕ
written_result (Ok n) = success n
written_result (Err k) = refused (number_of k)

-- how many there are
abbrev pub count_result : CountAnswer → Result ℕ
count_result (C.Count n) = success n
count_result (C.Refused k) = refused k
count_result (C.Faulty k p) = faulty k p
