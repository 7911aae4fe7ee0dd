-- What a call answers: what it gives, or its refusal (RULES R1 to R3).
use Rattle.std.specs.Prelude.{ℕ, Result, Ok, Err}
use Rattle.refusal.specs.Checks.{unless}
use Rattle.refusal.specs.Table.{refusal_of}
use Rattle.refusal.specs.declared.Refusal.{Refusal}

abbrev pub Answer : Type 0 → Type 0
Answer A = Result A Refusal

-- refused with this number of the table
abbrev pub refuse : {A : Type 0} → ℕ → Answer A
refuse k = Err (refusal_of k)

-- of a call that only judges: refused with this number, or, where it is 0, not
abbrev pub judged : ℕ → Answer (Unit {0})
judged k = unless refuse k (Ok tt)
