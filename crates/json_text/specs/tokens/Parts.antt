-- Parts of a text: `Some e`, the part that starts at i ends before e; `None`, no such part starts there.
use Rattle.std.specs.Prelude.{ℕ, ◌+◌, List, ◌&&◌, Option, Some, None}
use Rattle.json_text.specs.tokens.Bytes.{choose, byte_at, same, is_ws, is_digit, span}

-- a part, and behind it another
unfoldable pub and_then : Option ℕ → (ℕ → Option ℕ) → Option ℕ
and_then (Some e) next = next e
and_then None next = None

-- where a part is found, what follows it, and else another
unfoldable pub follow : {A : Type 0} → Option ℕ → (ℕ → A) → A → A
follow (Some e) next other = next e
follow None next other = other

-- ws = *( space / tab / line feed / carriage return )
abbrev pub ws : List ℕ → ℕ → ℕ
ws s i = span is_ws s i

-- *DIGIT
abbrev pub digits : List ℕ → ℕ → ℕ
digits s i = span is_digit s i

-- a mark between two parts, with white space around it: value-separator = ws "," ws, name-separator = ws ":" ws
unfoldable pub mark_at : ℕ → List ℕ → ℕ → Option ℕ
mark_at mark s i = choose (same (byte_at s (ws s i)) mark) (Some (ws s (ws s i + 1))) None

-- a closing bracket, with white space before it
unfoldable pub close_at : ℕ → List ℕ → ℕ → Option ℕ
close_at mark s i = choose (same (byte_at s (ws s i)) mark) (Some (ws s i + 1)) None

-- the four bytes a b c d
unfoldable pub word_at : List ℕ → ℕ → ℕ → ℕ → ℕ → ℕ → Option ℕ
word_at s i a b c d =
    choose (same (byte_at s i) a && (same (byte_at s (i + 1)) b && (same (byte_at s (i + 2)) c && same (byte_at s (i + 3)) d)))
    (Some (i + 4)) None
