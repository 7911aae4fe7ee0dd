-- A whole answer written at the front of lent memory.
use Rattle.std.specs.Prelude.{ℕ, List, [], ◌∷◌, ◌++◌, ltb, length, drop, Ok}
use Rattle.refusal.specs.Checks.{Check, check, answered, left}
use Rattle.refusal.specs.Answers.{Answer, refuse}

-- refusal 13: "the output is too short for the whole answer" (RULES R5)
abbrev pub room : {A : Type 0} → List A → List A → Check
room s out = check 13 (ltb (length out) (length s))

-- s at the front, and past it what was there (RULES R5)
abbrev pub over : {A : Type 0} → List A → List A → List A
over s out = s ++ drop (length s) out

-- what a writer of s answers: its length, or 13
unfoldable pub written : List ℕ → List ℕ → Answer ℕ
written s out = answered refuse (room s out ∷ []) (Ok (length s))

-- what the buffer then holds
unfoldable pub left_by : List ℕ → List ℕ → List ℕ
left_by s out = left (room s out ∷ []) (over s out) out
