-- The grammar of RFC 8259 by its rules: `Value s d i e` derives that the bytes of s from i up to e are a JSON value, nested at most d deep.
-- There is no order of tests and no bound on steps here, and white space is any run of it. A number is read as far as it goes.
use Rattle.std.specs.Prelude.{ℕ, zero, suc, ◌+◌, ◌≡◌, true, List, length, Some}
use Rattle.json_text.specs.tokens.Bytes.{byte_at, is_ws}
use Rattle.json_text.specs.tokens.Parts.{word_at}
use Rattle.json_text.specs.tokens.Numbers.{Numeral}
use Rattle.json_text.specs.strings.Chars.{String}

-- ws = *( space / tab / line feed / carriage return )
pub data Ws (s : List ℕ) : ℕ → ℕ → Type 0 where
  done : {i : ℕ} → Ws s i i
  one : {i e : ℕ} → is_ws (byte_at s i) ≡ true → Ws s (i + 1) e → Ws s i e

-- item *( ws "," ws item ) ws close
pub data Items (s : List ℕ) (Item : ℕ → ℕ → Type 0) (close : ℕ) : ℕ → ℕ → Type 0 where
  last : {i j k : ℕ} → Item i j → Ws s j k → byte_at s k ≡ close → Items s Item close i (k + 1)
  next : {i j k m e : ℕ} → Item i j → Ws s j k → byte_at s k ≡ 0x2C → Ws s (k + 1) m → Items s Item close m e → Items s Item close i e

-- ws [ items ] ws close, behind the opening bracket
pub data Listed (s : List ℕ) (Item : ℕ → ℕ → Type 0) (close : ℕ) : ℕ → ℕ → Type 0 where
  empty : {i k : ℕ} → Ws s i k → byte_at s k ≡ close → Listed s Item close i (k + 1)
  some : {i k e : ℕ} → Ws s i k → Items s Item close k e → Listed s Item close i e

-- member = string ws ":" ws value
pub data Member (s : List ℕ) (Inner : ℕ → ℕ → Type 0) : ℕ → ℕ → Type 0 where
  member : {i j k m e : ℕ} → String s i j → Ws s j k → byte_at s k ≡ 0x3A → Ws s (k + 1) m → Inner m e → Member s Inner i e

-- value = false / null / true / object / array / number / string, where Inner says what a value inside is
pub data ValueOf (s : List ℕ) (Inner : ℕ → ℕ → Type 0) : ℕ → ℕ → Type 0 where
  is_true : {i e : ℕ} → word_at s i 0x74 0x72 0x75 0x65 ≡ Some e → ValueOf s Inner i e
  is_null : {i e : ℕ} → word_at s i 0x6E 0x75 0x6C 0x6C ≡ Some e → ValueOf s Inner i e
  is_false : {i e : ℕ} → byte_at s i ≡ 0x66 → word_at s (i + 1) 0x61 0x6C 0x73 0x65 ≡ Some e → ValueOf s Inner i e
  is_number : {i e : ℕ} → Numeral s i e → ValueOf s Inner i e
  is-string : {i e : ℕ} → String s i e → ValueOf s Inner i e
  array : {i e : ℕ} → byte_at s i ≡ 0x5B → Listed s Inner 0x5D (i + 1) e → ValueOf s Inner i e
  object : {i e : ℕ} → byte_at s i ≡ 0x7B → Listed s (Member s Inner) 0x7D (i + 1) e → ValueOf s Inner i e

-- nested at most d deep: "the outermost value being at depth 1 and each value in another, a plain number too, one deeper" (RULES I2)
abbrev pub Value : List ℕ → ℕ → ℕ → ℕ → Type 0
Value s zero i e = ⊥
Value s (suc d) i e = ValueOf s (Value s d) i e

-- JSON-text = ws value ws (RULES I1)
pub data JsonText (d : ℕ) (s : List ℕ) : Type 0 where
  text : (i e : ℕ) → Ws s 0 i → Value s d i e → Ws s e (length s) → JsonText d s
