-- Characters as RFC 8259 writes them (section 7), in UTF-8 (RFC 3629).
use Rattle.std.specs.Prelude.{ℕ, ◌+◌, ◌≡◌, List, Bool, not, ◌||◌, ◌&&◌, leb}
use Rattle.json_text.specs.tokens.Bytes.{choose, byte_at, same, under, inside}

-- HEXDIG: 0 to 9, A to F, a to f
unfoldable pub is_hex : ℕ → Bool
is_hex b = inside 0x30 0x39 b || (inside 0x41 0x46 b || inside 0x61 0x66 b)

-- what may stand behind a backslash, but u: " \ / b f n r t
unfoldable pub is_short : ℕ → Bool
is_short b = same b 0x22 || (same b 0x5C || (same b 0x2F || (same b 0x62 || (same b 0x66 || (same b 0x6E || (same b 0x72 || same b 0x74))))))

-- a character by itself: ASCII from the space on, but the quotation mark and the backslash
unfoldable pub is_plain : ℕ → Bool
is_plain b = inside 0x20 0x7F b && (not (same b 0x22) && not (same b 0x5C))

-- UTF8-tail = %x80-BF
unfoldable pub is_tail : ℕ → Bool
is_tail c = inside 0x80 0xBF c

-- c may stand behind the first byte b of a sequence: behind E0 from A0 on and behind F0 from 90 on, as less would be overlong;
-- behind ED up to 9F, as more would be a surrogate; behind F4 up to 8F, as more would be above U+10FFFF
unfoldable pub is_second : ℕ → ℕ → Bool
is_second b c =
    inside 0x80 0xBF c && ((not (same b 0xE0) || leb 0xA0 c) && ((not (same b 0xED) || leb c 0x9F)
    && ((not (same b 0xF0) || leb 0x90 c) && (not (same b 0xF4) || leb c 0x8F))))

-- how many bytes the UTF-8 sequence that begins b c d e has; 0: it is none (RULES I3)
unfoldable pub utf8_len : ℕ → ℕ → ℕ → ℕ → ℕ
utf8_len b c d e =
    choose (under b 0x80) 1
    (choose (inside 0xC2 0xDF b && is_second b c) 2
    (choose (inside 0xE0 0xEF b && (is_second b c && is_tail d)) 3
    (choose (inside 0xF0 0xF4 b && (is_second b c && (is_tail d && is_tail e))) 4 0)))

-- how many bytes the escape that begins with a backslash and then b c d e f has; 0: it is none
unfoldable pub escape_len : ℕ → ℕ → ℕ → ℕ → ℕ → ℕ
escape_len b c d e f =
    choose (is_short b) 2
    (choose (same b 0x75 && (is_hex c && (is_hex d && (is_hex e && is_hex f)))) 6 0)

-- char = unescaped / escape ..: how many bytes the character of a string at i has; 0: there is none, as at the quotation mark
unfoldable pub char_len : List ℕ → ℕ → ℕ
char_len s i =
    choose (under (byte_at s i) 0x20) 0
    (choose (same (byte_at s i) 0x22) 0
    (choose (same (byte_at s i) 0x5C)
    (escape_len (byte_at s (i + 1)) (byte_at s (i + 2)) (byte_at s (i + 3)) (byte_at s (i + 4)) (byte_at s (i + 5)))
    (utf8_len (byte_at s i) (byte_at s (i + 1)) (byte_at s (i + 2)) (byte_at s (i + 3)))))

-- ---- UTF-8 as such (RFC 3629): the bytes from i up to e are whole sequences
unfoldable pub utf8_at : List ℕ → ℕ → ℕ
utf8_at s i = utf8_len (byte_at s i) (byte_at s (i + 1)) (byte_at s (i + 2)) (byte_at s (i + 3))

-- RULES I3
pub data Utf8 (s : List ℕ) : ℕ → ℕ → Type 0 where
  done : {i : ℕ} → Utf8 s i i
  one : {i e : ℕ} → (utf8_at s i ≡ 0 → ⊥) → Utf8 s (i + utf8_at s i) e → Utf8 s i e
