-- Bytes of a text, and the classes of bytes that RFC 8259 names.
use Rattle.std.specs.Prelude.{ℕ, ◌+◌, List, [], ◌∷◌, Bool, true, false, ◌||◌, ◌&&◌, get_or, drop, ltb, leb, eqb}

-- a choice by a test, as `pick` of the crate refusal, but shut: a rule is then met by its tests alone, without what they choose from being written out
unfoldable pub choose : {A : Type 0} → Bool → A → A → A
choose true a b = a
choose false a b = b

-- the byte at i. Past the end it is 0, a byte that no part of a JSON text has: so no rule asks where the text ends
abbrev pub byte_at : List ℕ → ℕ → ℕ
byte_at s i = get_or s i 0

unfoldable pub same : ℕ → ℕ → Bool
same a b = eqb a b

unfoldable pub under : ℕ → ℕ → Bool
under a b = ltb a b

unfoldable pub inside : ℕ → ℕ → ℕ → Bool
inside low high b = leb low b && leb b high

-- ws: space, tab, line feed, carriage return
unfoldable pub is_ws : ℕ → Bool
is_ws b = same b 0x20 || (same b 0x09 || (same b 0x0A || same b 0x0D))

-- DIGIT: 0 to 9
unfoldable pub is_digit : ℕ → Bool
is_digit b = inside 0x30 0x39 b

-- the first position from i on whose byte is not in the class: of what is left of the text, and the position where that begins
unfoldable pub span_in : (ℕ → Bool) → List ℕ → ℕ → ℕ
span_in class [] i = i
span_in class (b ∷ t) i = choose (class b) (span_in class t (i + 1)) i

abbrev pub span : (ℕ → Bool) → List ℕ → ℕ → ℕ
span class s i = span_in class (drop i s) i
