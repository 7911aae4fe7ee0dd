-- Numbers of a JSON text that the settings use: "whole and written without fraction or exponent".
use Rattle.std.specs.Prelude.{ℕ, zero, suc, ◌+◌, ◌-◌, ◌*◌, ◌^◌, Bool, ◌||◌, List, [], ◌∷◌, ltb, eqb, ℤ, pos, negsuc, drop, Option, Some, None}
use Rattle.refusal.specs.Choice.{pick}
use Rattle.json_text.specs.tokens.Bytes.{byte_at, is_digit}
use Rattle.json_text.specs.tokens.Parts.{digits}
use Rattle.card.specs.fields.Twos.{bits32}

-- the decimal number whose digits are n's and then those at the front of a list
unfoldable pub decimal_on : ℕ → List ℕ → ℕ
decimal_on n [] = n
decimal_on n (b ∷ l) = pick (is_digit b) (decimal_on (n * 10 + (b - 0x30)) l) n

-- the decimal number whose digits stand from p on
unfoldable pub decimal_at : List ℕ → ℕ → ℕ
decimal_at s p = decimal_on 0 (drop p s)

-- a fraction or an exponent follows: a point, e or E
unfoldable pub goes_on_of : ℕ → Bool
goes_on_of b = eqb b 0x2E || (eqb b 0x65 || eqb b 0x45)

-- a number that 32 bits hold
unfoldable pub in32 : ℕ → Option ℕ
in32 n = pick (ltb n (2 ^ 32)) (Some n) None

-- the number whose digits stand from p on and end it
unfoldable pub digits_from_of : List ℕ → ℕ → Option ℕ
digits_from_of s p = pick (goes_on_of (byte_at s (digits s p))) None (in32 (decimal_at s p))

-- digits alone, without fraction and exponent (RULES I6)
unfoldable pub whole_from : List ℕ → ℕ → Option ℕ
whole_from s p = pick (is_digit (byte_at s p)) (digits_from_of s p) None

-- what follows where something is there, else `none`
abbrev pub when_some : {A B : Type 0} → Option B → A → (B → A) → A
when_some (Some b) none f = f b
when_some None none f = none

-- a number that is written at p and is 0 or more; with a minus, 0 only
unfoldable pub natural_at : List ℕ → ℕ → Option ℕ
natural_at s p =
    pick (eqb (byte_at s p) 0x2D) (when_some (whole_from s (p + 1)) None (λ n. pick (eqb n 0) (Some 0) None))
    (whole_from s p)

-- minus n
unfoldable pub negative : ℕ → ℤ
negative zero = pos 0
negative (suc n) = negsuc n

-- a signed number of 32 bits, as a card has it by two's complement: from 0 on and below
unfoldable pub above_of : Option ℕ → Option ℕ
above_of w = when_some w None (λ n. pick (ltb n (2 ^ 31)) (Some n) None)

unfoldable pub below_of : Option ℕ → Option ℕ
below_of w = when_some w None (λ n. pick (ltb (2 ^ 31) n) None (Some (bits32 (negative n))))

-- the signed number that is written at p
unfoldable pub coordinate_at : List ℕ → ℕ → Option ℕ
coordinate_at s p = pick (eqb (byte_at s p) 0x2D) (below_of (whole_from s (p + 1))) (above_of (whole_from s p))
