-- The text of a string with its escapes undone, as bytes of UTF-8: "strings compare unescaped" (order 1).
use Rattle.std.specs.Prelude.{ℕ, zero, suc, ◌+◌, ◌-◌, ◌*◌, ◌/◌, ◌%◌, List, [], ◌∷◌, ◌++◌, Bool, true, false, not, ◌&&◌, ltb, eqb, length, get_or, take, drop}
use Rattle.json_text.specs.tokens.Bytes.{choose, byte_at, same, under, inside, is_digit}
use Rattle.json_text.specs.characters.Chars.{is_plain, char_len}

-- the value of a hexadecimal digit, and of the four from i on
unfoldable pub hex_value : ℕ → ℕ
hex_value b = choose (is_digit b) (b - 0x30) (choose (inside 0x41 0x46 b) (b - 0x37) (b - 0x57))

abbrev pub unit_of : ℕ → ℕ → ℕ → ℕ → ℕ
unit_of a b c d = hex_value a * 4096 + hex_value b * 256 + hex_value c * 16 + hex_value d

unfoldable pub unit_at : List ℕ → ℕ → ℕ
unit_at s i = unit_of (byte_at s i) (byte_at s (i + 1)) (byte_at s (i + 2)) (byte_at s (i + 3))

-- UTF-8 of a code point
unfoldable pub utf8 : ℕ → List ℕ
utf8 c =
    choose (under c 0x80) (c ∷ [])
    (choose (under c 0x800) ((0xC0 + c / 64) ∷ (0x80 + c % 64) ∷ [])
    (choose (under c 0x10000) ((0xE0 + c / 4096) ∷ (0x80 + c / 64 % 64) ∷ (0x80 + c % 64) ∷ [])
    ((0xF0 + c / 262144) ∷ (0x80 + c / 4096 % 64) ∷ (0x80 + c / 64 % 64) ∷ (0x80 + c % 64) ∷ [])))

-- the byte that \b \f \n \r \t stand for; \" \\ \/ stand for themselves
unfoldable pub short_byte : ℕ → ℕ
short_byte b =
    choose (same b 0x62) 0x08 (choose (same b 0x66) 0x0C (choose (same b 0x6E) 0x0A
    (choose (same b 0x72) 0x0D (choose (same b 0x74) 0x09 b))))

-- the code point of a high and a low surrogate
abbrev pub paired : ℕ → ℕ → ℕ
paired u v = 0x10000 + (u - 0xD800) * 1024 + (v - 0xDC00)

-- the bytes of a unit by itself; half a pair alone is 256, which is no byte, so that no name has it
unfoldable pub lone_unit : ℕ → List ℕ
lone_unit u = choose (inside 0xD800 0xDFFF u) (256 ∷ []) (utf8 u)

-- at i stands \uXXXX of a high surrogate, with the \uXXXX of a low one behind it
unfoldable pub is_pair : List ℕ → ℕ → Bool
is_pair s i =
    (same (byte_at s i) 0x5C && same (byte_at s (i + 1)) 0x75) && (inside 0xD800 0xDBFF (unit_at s (i + 2))
    && (same (char_len s (i + 6)) 6 && inside 0xDC00 0xDFFF (unit_at s (i + 8))))

-- the bytes that \uXXXX at i stands for, with the \uXXXX behind it where the two are a pair
unfoldable pub unit_bytes : List ℕ → ℕ → List ℕ
unit_bytes s i = choose (is_pair s i) (utf8 (paired (unit_at s (i + 2)) (unit_at s (i + 8)))) (lone_unit (unit_at s (i + 2)))

-- what the character at i stands for
unfoldable pub char_bytes : List ℕ → ℕ → List ℕ
char_bytes s i =
    choose (same (byte_at s i) 0x5C)
    (choose (same (byte_at s (i + 1)) 0x75) (unit_bytes s i) (short_byte (byte_at s (i + 1)) ∷ []))
    (take (char_len s i) (drop i s))

-- the text from i on to where no character stands, of at most n characters (RULES I4)
unfoldable pub unescaped : List ℕ → ℕ → ℕ → List ℕ
unescaped s zero i = []
unescaped s (suc n) i =
    choose (same (char_len s i) 0) []
    (char_bytes s i ++ unescaped s n (i + choose (is_pair s i) 12 (char_len s i)))

-- what the string at p says: its characters stand behind the quotation mark
abbrev pub text_at : List ℕ → ℕ → List ℕ
text_at s p = unescaped s (length s + 1) (p + 1)

unfoldable pub eq_list : List ℕ → List ℕ → Bool
eq_list [] [] = true
eq_list [] (y ∷ ys) = false
eq_list (x ∷ xs) [] = false
eq_list (x ∷ xs) (y ∷ ys) = choose (same x y) (eq_list xs ys) false

-- ASCII: a name of ours
abbrev pub ascii : List ℕ → Bool
ascii [] = true
ascii (b ∷ l) = ltb b 128 && ascii l

-- ---- what the search computes: the character at i where it stands for one byte below 128, and 128 where it stands for something else
unfoldable pub ascii_of : ℕ → ℕ
ascii_of u = choose (under u 0x80) u 0x80

unfoldable pub ascii_at : List ℕ → ℕ → ℕ
ascii_at s i =
    choose (same (byte_at s i) 0x5C)
    (choose (same (byte_at s (i + 1)) 0x75) (ascii_of (unit_at s (i + 2))) (ascii_of (short_byte (byte_at s (i + 1)))))
    (ascii_of (byte_at s i))

-- the first byte tells that the text from i on is not the name
unfoldable pub differs : List ℕ → ℕ → List ℕ → Bool
differs s i name = is_plain (byte_at s i) && not (eqb (byte_at s i) (get_or name 0 0))
