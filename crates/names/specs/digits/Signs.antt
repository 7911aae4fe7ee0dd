-- Signed numbers as text (RULES G8).
use Rattle.std.specs.Prelude.{ℕ, Bool, true, false, List, ◌∷◌, ℤ, pos, negsuc, nat_abs}
use Rattle.refusal.specs.Choice.{pick}
use Rattle.names.specs.declared.digits.Signed.{Signed}
use Rattle.names.specs.digits.Digits.{decimal}

unfoldable pub negative : ℤ → Bool
negative (pos n) = false
negative (negsuc n) = true

-- a number as its text has it
unfoldable pub sign_parts : ℤ → Signed
sign_parts z = record { negative = negative z; magnitude = nat_abs z }

-- "in base 10, minus sign where negative"; the sign is byte 45
unfoldable pub signed_text : Signed → List ℕ
signed_text n = pick n.negative (45 ∷ decimal n.magnitude) (decimal n.magnitude)
