-- Strings as RFC 8259 writes them (section 7).
use Rattle.std.specs.Prelude.{ℕ, zero, suc, ◌+◌, ◌≤◌, ◌≡◌, true, List, length, Option, Some, None}
use Rattle.json_text.specs.tokens.Bytes.{choose, byte_at, same}
use Rattle.json_text.specs.characters.Chars.{is_hex, is_short, utf8_at, char_len}

-- *char quotation-mark, of at most n characters
unfoldable pub chars_at : List ℕ → ℕ → ℕ → Option ℕ
chars_at s zero i = None
chars_at s (suc n) i =
    choose (same (byte_at s i) 0x22) (Some (i + 1))
    (choose (same (char_len s i) 0) None (chars_at s n (i + char_len s i)))

-- string = quotation-mark *char quotation-mark. A text of n bytes has at most n characters
unfoldable pub string_at : List ℕ → ℕ → Option ℕ
string_at s i = choose (same (byte_at s i) 0x22) (chars_at s (length s) (i + 1)) None

-- ---- the same by the rules: the bytes from i up to e are ..

-- char = unescaped / escape ( %x22 / %x5C / %x2F / %x62 / %x66 / %x6E / %x72 / %x74 / %x75 4HEXDIG ), unescaped = %x20-21 / %x23-5B / %x5D-10FFFF in UTF-8
pub data Char (s : List ℕ) : ℕ → ℕ → Type 0 where
  plain : {i : ℕ} → 0x20 ≤ byte_at s i → (byte_at s i ≡ 0x22 → ⊥) → (byte_at s i ≡ 0x5C → ⊥) → (utf8_at s i ≡ 0 → ⊥) → Char s i (i + utf8_at s i)
  short : {i : ℕ} → byte_at s i ≡ 0x5C → is_short (byte_at s (i + 1)) ≡ true → Char s i (i + 2)
  unit : {i : ℕ} → byte_at s i ≡ 0x5C → byte_at s (i + 1) ≡ 0x75
      → is_hex (byte_at s (i + 2)) ≡ true → is_hex (byte_at s (i + 3)) ≡ true → is_hex (byte_at s (i + 4)) ≡ true → is_hex (byte_at s (i + 5)) ≡ true → Char s i (i + 6)

-- *char
pub data Chars (s : List ℕ) : ℕ → ℕ → Type 0 where
  none : {i : ℕ} → Chars s i i
  more : {i j e : ℕ} → Char s i j → Chars s j e → Chars s i e

-- quotation-mark *char quotation-mark
pub data String (s : List ℕ) : ℕ → ℕ → Type 0 where
  string : {i j : ℕ} → byte_at s i ≡ 0x22 → Chars s (i + 1) j → byte_at s j ≡ 0x22 → String s i (j + 1)
