-- Where each value of a JSON text ends (RFC 8259), as it is computed.
use Rattle.std.specs.Prelude.{ℕ, zero, suc, ◌+◌, List, Bool, false, length, Option, Some, None}
use Rattle.json_text.specs.tokens.Bytes.{choose, byte_at, same}
use Rattle.json_text.specs.tokens.Parts.{and_then, follow, ws, mark_at, close_at, word_at}
use Rattle.json_text.specs.tokens.Numbers.{number_at}
use Rattle.std.specs.declared.ops.ControlFlow.{ControlFlow}
use Rattle.std.specs.declared.ops.ControlFlow.TheVariants.{Continue, Break}
use Rattle.json_text.specs.strings.Chars.{string_at}

-- "to a depth of 32" (order 1) (RULES I2)
abbrev pub deepest : ℕ
deepest = 32

-- a position as one number: no part of a text ends at 0, so that 0 is left for none
unfoldable pub end_of : Option ℕ → ℕ
end_of (Some e) = e
end_of None = 0

-- true / null / false / string / number, by the first byte
unfoldable pub scalar_at : List ℕ → ℕ → Option ℕ
scalar_at s i =
    choose (same (byte_at s i) 0x22) (string_at s i)
    (choose (same (byte_at s i) 0x74) (word_at s i 0x74 0x72 0x75 0x65)
    (choose (same (byte_at s i) 0x6E) (word_at s i 0x6E 0x75 0x6C 0x6C)
    (choose (same (byte_at s i) 0x66) (word_at s (i + 1) 0x61 0x6C 0x73 0x65)
    (number_at s i))))

-- item *( ws "," ws item ) ws close, of at most n items, each as `item` says
unfoldable pub items_at : (ℕ → Option ℕ) → ℕ → List ℕ → ℕ → ℕ → Option ℕ
items_at item close s zero i = None
items_at item close s (suc n) i =
    and_then (item i) (λ e. follow (mark_at 0x2C s e) (λ j. items_at item close s n j) (close_at close s e))

-- one step along the items, from where one ends (0: nowhere): ws "," ws to the next item, or ws close to the end (0: nowhere)
unfoldable pub next_at : ℕ → List ℕ → ℕ → ControlFlow ℕ ℕ
next_at close s e = choose (same e 0) (Break 0) (follow (mark_at 0x2C s e) Continue (Break (end_of (close_at close s e))))

-- ws [ items ] ws close: what stands behind "[" or "{"
unfoldable pub list_at : (ℕ → Option ℕ) → ℕ → List ℕ → ℕ → Option ℕ
list_at item close s i =
    choose (same (byte_at s (ws s i)) close) (Some (ws s i + 1))
    (items_at item close s (length s) (ws s i))

-- member = string ws ":" ws value
unfoldable pub member_at : (ℕ → Option ℕ) → List ℕ → ℕ → Option ℕ
member_at value s i = and_then (string_at s i) (λ e. and_then (mark_at 0x3A s e) (λ j. value j))

-- value, nested at most d deep: object / array / scalar
unfoldable pub value_at : ℕ → List ℕ → ℕ → Option ℕ
value_at zero s i = None
value_at (suc d) s i =
    choose (same (byte_at s i) 0x7B) (list_at (member_at (value_at d s) s) 0x7D s (i + 1))
    (choose (same (byte_at s i) 0x5B) (list_at (value_at d s) 0x5D s (i + 1))
    (scalar_at s i))

-- JSON-text = ws value ws, at most d deep
unfoldable pub ends_at : List ℕ → Option ℕ → Bool
ends_at s (Some e) = same (ws s e) (length s)
ends_at s None = false

-- RULES I1
unfoldable pub is_json : ℕ → List ℕ → Bool
is_json d s = ends_at s (value_at d s (ws s 0))
