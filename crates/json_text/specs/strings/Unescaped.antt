-- What a string says, by the rules that derive it: "strings compare unescaped" (order 1).
use Rattle.std.specs.Prelude.{ℕ, ◌+◌, ◌&&◌, List, [], ◌∷◌, ◌++◌, take, drop}
use Rattle.json_text.specs.tokens.Bytes.{choose, byte_at, inside}
use Rattle.json_text.specs.characters.Chars.{utf8_at}
use Rattle.json_text.specs.strings.Chars.{Char, Chars, String}
use Rattle.json_text.specs.strings.Names.{unit_at, utf8, short_byte, paired, lone_unit}

-- what a character stands for: bytes of UTF-8, or a unit of UTF-16
pub data Stands : Type 0 where
  bytes : List ℕ → Stands
  unit : ℕ → Stands

-- an unescaped character stands for itself, \b and its like for their byte, \uXXXX for a unit
unfoldable pub stands_for : {s : List ℕ} {i e : ℕ} → Char s i e → Stands
stands_for {s = s} (Char.plain {i = i} a b c d) = Stands.bytes (take (utf8_at s i) (drop i s))
stands_for {s = s} (Char.short {i = i} a b) = Stands.bytes (short_byte (byte_at s (i + 1)) ∷ [])
stands_for {s = s} (Char.unit {i = i} a b c d e f) = Stands.unit (unit_at s (i + 2))

unfoldable pub all_stand : {s : List ℕ} {i e : ℕ} → Chars s i e → List Stands
all_stand Chars.none = []
all_stand (Chars.more c r) = stands_for c ∷ all_stand r

-- a high surrogate and a low one right behind it are one code point
unfoldable pub joined_units : List Stands → List ℕ
joined_units [] = []
joined_units (Stands.bytes b ∷ l) = b ++ joined_units l
joined_units (Stands.unit u ∷ []) = lone_unit u
joined_units (Stands.unit u ∷ Stands.bytes b ∷ l) = lone_unit u ++ (b ++ joined_units l)
joined_units (Stands.unit u ∷ Stands.unit v ∷ l) =
    choose (inside 0xD800 0xDBFF u && inside 0xDC00 0xDFFF v) (utf8 (paired u v) ++ joined_units l) (lone_unit u ++ joined_units (Stands.unit v ∷ l))

-- the text of a string (RULES I4)
unfoldable pub string_text : {s : List ℕ} {i e : ℕ} → String s i e → List ℕ
string_text (String.string a r b) = joined_units (all_stand r)
