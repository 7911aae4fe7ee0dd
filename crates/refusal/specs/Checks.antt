-- One way to refuse: the checks of a call stand as a list in their fixed order, and the first that holds decides (RULES R2).
use Rattle.std.specs.Prelude.{ℕ, zero, suc, Bool, List, [], ◌∷◌}
use Rattle.std.proofs.Math.Option.{Option, none, some}
use Rattle.refusal.specs.Choice.{pick}

-- a number of the table, whether the call is to be refused with it, and the byte position that this refusal carries, if it carries one (RULES R3)
pub record Check : Type 0 where
  pub number : ℕ
  pub holds : Bool
  pub position : Option ℕ

abbrev pub check : ℕ → Bool → Check
check number holds = record { number = number; holds = holds; position = none }

abbrev pub check_at : ℕ → Bool → ℕ → Check
check_at number holds position = record { number = number; holds = holds; position = some position }

-- the number of the first check that holds; 0 where none does (RULES R2)
unfoldable pub first_number : List Check → ℕ
first_number [] = 0
first_number (c ∷ cs) = pick c.holds c.number (first_number cs)

-- its position; none where it carries none, and where no check holds (RULES R3)
unfoldable pub first_position : List Check → Option ℕ
first_position [] = none
first_position (c ∷ cs) = pick c.holds c.position (first_position cs)

-- 'number or 0' made into an answer: the refusal with that number, or, where it is 0, the answer given
unfoldable pub unless : {A : Type 0} → (ℕ → A) → ℕ → A → A
unless refused zero answer = answer
unless refused (suc k) answer = refused (suc k)

-- the answer of a call with these checks (RULES R2)
abbrev pub answered : {A : Type 0} → (ℕ → A) → List Check → A → A
answered refused checks answer = unless refused (first_number checks) answer

-- what lent memory holds after a call with these checks: what the answer makes of it, or, refused, what it held before (RULES R5)
abbrev pub left : {A : Type 0} → List Check → A → A → A
left checks after before = answered (λ k. before) checks after

-- ---- calls whose refusals may carry a position (RULES R3)

-- the refusal with a number and, where there is one, a position
abbrev pub refusal : {A : Type 0} → (ℕ → A) → (ℕ → ℕ → A) → ℕ → Option ℕ → A
refusal refused refused_at k none = refused k
refusal refused refused_at k (some p) = refused_at k p

-- the answer of such a call (RULES R3)
abbrev pub answered_at : {A : Type 0} → (ℕ → A) → (ℕ → ℕ → A) → List Check → A → A
answered_at refused refused_at checks answer = unless (λ k. refusal refused refused_at k (first_position checks)) (first_number checks) answer
