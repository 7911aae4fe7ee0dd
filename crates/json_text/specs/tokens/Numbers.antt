-- Numbers as RFC 8259 writes them (section 6).
use Rattle.std.specs.Prelude.{ℕ, ◌+◌, ◌-◌, ◌*◌, ◌≡◌, List, Bool, true, false, ◌||◌, Option, Some, None}
use Rattle.json_text.specs.tokens.Bytes.{choose, byte_at, same, is_digit}
use Rattle.json_text.specs.tokens.Parts.{and_then, digits}

-- 1*DIGIT
unfoldable pub some_digits : List ℕ → ℕ → Option ℕ
some_digits s i = choose (is_digit (byte_at s i)) (Some (digits s i)) None

-- int = zero / ( digit1-9 *DIGIT )
unfoldable pub int_at : List ℕ → ℕ → Option ℕ
int_at s i = choose (same (byte_at s i) 0x30) (Some (i + 1)) (some_digits s i)

-- [ frac ], frac = decimal-point 1*DIGIT
unfoldable pub frac_at : List ℕ → ℕ → Option ℕ
frac_at s i = choose (same (byte_at s i) 0x2E) (some_digits s (i + 1)) (Some i)

-- minus / plus
unfoldable pub is_sign : ℕ → Bool
is_sign b = same b 0x2D || same b 0x2B

-- e = %x65 / %x45
unfoldable pub is_e : ℕ → Bool
is_e b = same b 0x65 || same b 0x45

-- [ minus / plus ]
unfoldable pub sign_at : List ℕ → ℕ → ℕ
sign_at s i = choose (is_sign (byte_at s i)) (i + 1) i

-- [ exp ], exp = e [ minus / plus ] 1*DIGIT
unfoldable pub exp_at : List ℕ → ℕ → Option ℕ
exp_at s i = choose (is_e (byte_at s i)) (some_digits s (sign_at s (i + 1))) (Some i)

-- int [ frac ] [ exp ]
unfoldable pub unsigned_at : List ℕ → ℕ → Option ℕ
unsigned_at s i = and_then (int_at s i) (λ j. and_then (frac_at s j) (λ k. exp_at s k))

-- number = [ minus ] int [ frac ] [ exp ]
unfoldable pub number_at : List ℕ → ℕ → Option ℕ
number_at s i = choose (same (byte_at s i) 0x2D) (unsigned_at s (i + 1)) (unsigned_at s i)

-- ---- the same by the rules: the bytes from i up to e are .., read as far as it goes

-- 1*DIGIT
pub data Digits (s : List ℕ) : ℕ → ℕ → Type 0 where
  last : {i : ℕ} → is_digit (byte_at s i) ≡ true → is_digit (byte_at s (i + 1)) ≡ false → Digits s i (i + 1)
  next : {i e : ℕ} → is_digit (byte_at s i) ≡ true → Digits s (i + 1) e → Digits s i e

-- int = zero / ( digit1-9 *DIGIT )
pub data IntPart (s : List ℕ) : ℕ → ℕ → Type 0 where
  is_zero : {i : ℕ} → byte_at s i ≡ 0x30 → IntPart s i (i + 1)
  is-digits : {i e : ℕ} → (byte_at s i ≡ 0x30 → ⊥) → Digits s i e → IntPart s i e

-- [ frac ], frac = decimal-point 1*DIGIT
pub data FracPart (s : List ℕ) : ℕ → ℕ → Type 0 where
  none : {i : ℕ} → (byte_at s i ≡ 0x2E → ⊥) → FracPart s i i
  frac : {i e : ℕ} → byte_at s i ≡ 0x2E → Digits s (i + 1) e → FracPart s i e

-- [ exp ], exp = e [ minus / plus ] 1*DIGIT
pub data ExpPart (s : List ℕ) : ℕ → ℕ → Type 0 where
  none : {i : ℕ} → is_e (byte_at s i) ≡ false → ExpPart s i i
  exp : {i e : ℕ} → is_e (byte_at s i) ≡ true → Digits s (sign_at s (i + 1)) e → ExpPart s i e

-- number = [ minus ] int [ frac ] [ exp ]
pub data Numeral (s : List ℕ) : ℕ → ℕ → Type 0 where
  plain : {i j k e : ℕ} → (byte_at s i ≡ 0x2D → ⊥) → IntPart s i j → FracPart s j k → ExpPart s k e → Numeral s i e
  minus : {i j k e : ℕ} → byte_at s i ≡ 0x2D → IntPart s (i + 1) j → FracPart s j k → ExpPart s k e → Numeral s i e

-- the decimal number that digits write behind those of n
unfoldable pub decimal : {s : List ℕ} {i e : ℕ} → ℕ → Digits s i e → ℕ
decimal {s = s} n (Digits.last {i = i} a b) = n * 10 + (byte_at s i - 0x30)
decimal {s = s} n (Digits.next {i = i} a r) = decimal (n * 10 + (byte_at s i - 0x30)) r

-- what the whole part writes (RULES I6)
unfoldable pub int_value : {s : List ℕ} {i e : ℕ} → IntPart s i e → ℕ
int_value (IntPart.is_zero a) = 0
int_value (IntPart.is-digits a r) = decimal 0 r
