-- A string is UTF-8: its characters are sequences or escapes, and escapes are ASCII.
use Prim.Native.Nat.{ℕ, ◌+◌, ◌<◌}
use mathlib.Core.Path.{◌≡◌, refl, subst⁻¹}
use mathlib.Core.List.{List}
use mathlib.Core.Bool.{Bool, true, false, ◌||◌}
use native.Mathlib.Omega.{arith}
use borrow.Author.Tests.{leb-true, lt-ltb}
use lib.Dec.{leb}
use Rattle.refusal.proofs.Tests.{both}
use Rattle.json_text.specs.tokens.Bytes.{same, under, inside, byte_at}
use Rattle.json_text.proofs.tokens.Laws.{if_yes, is_same}
use Rattle.json_text.specs.characters.Chars.{is_hex, is_short, utf8_len, utf8_at, Utf8}
use Rattle.json_text.specs.strings.Chars.{Char, Chars, String}

pub encoded_both : (s : List ℕ) (i j e : ℕ) → Utf8 s i j → Utf8 s j e → Utf8 s i e
encoded_both s i j e Utf8.done r = r
encoded_both s i j e (Utf8.one h q) r = Utf8.one h (encoded_both s (i + utf8_at s i) j e q r)

-- a byte of ASCII
low-one : (s : List ℕ) (i : ℕ) → byte_at s i < 128 → utf8_at s i ≡ 1
unfolding utf8_at utf8_len under
low-one s i h = if_yes _ _ _ (lt-ltb (byte_at s i) 128 h)

not_none : (n : ℕ) → n ≡ 1 → n ≡ 0 → ⊥
not_none n p q = omega arith

pub encoded_low : (s : List ℕ) (i e : ℕ) → byte_at s i < 128 → Utf8 s (i + 1) e → Utf8 s i e
encoded_low s i e h r =
    let q = low-one s i h in
    Utf8.one {i = i} (not_none (utf8_at s i) q) (subst⁻¹ (λ (n : ℕ). Utf8 s (i + n) e) q r)

pub encoded_step : (s : List ℕ) (i j e : ℕ) → i + 1 ≡ j → byte_at s i < 128 → Utf8 s j e → Utf8 s i e
encoded_step s i j e q h r = encoded_low s i e h (subst⁻¹ (λ (n : ℕ). Utf8 s n e) q r)

-- ---- escapes are ASCII

pub or_case : (C : Type 0) (x y : Bool) → (x || y) ≡ true → (x ≡ true → C) → (y ≡ true → C) → C
or_case C true y e f g = f refl
or_case C false y e f g = g e

pub same_low : (b c : ℕ) → same b c ≡ true → c < 128 → b < 128
same_low b c e h = omega (arith, is_same b c e)

pub inside-low : (low high b : ℕ) → inside low high b ≡ true → high < 128 → b < 128
unfolding inside
inside-low low high b e h = omega (arith, leb-true b high (both (leb low b) (leb b high) e).1)

hex_low : (b : ℕ) → is_hex b ≡ true → b < 128
unfolding is_hex
hex_low b e =
    or_case _ _ _ e (λ t. inside-low 0x30 0x39 b t (omega arith)) (λ t. or_case _ _ _ t (λ u. inside-low 0x41 0x46 b u (omega arith)) (λ u. inside-low 0x61 0x66 b u (omega arith)))

short-low : (b : ℕ) → is_short b ≡ true → b < 128
unfolding is_short
short-low b e =
    or_case _ _ _ e (λ t. same_low b 0x22 t (omega arith)) (λ t.
    or_case _ _ _ t (λ u. same_low b 0x5C u (omega arith)) (λ t.
    or_case _ _ _ t (λ u. same_low b 0x2F u (omega arith)) (λ t.
    or_case _ _ _ t (λ u. same_low b 0x62 u (omega arith)) (λ t.
    or_case _ _ _ t (λ u. same_low b 0x66 u (omega arith)) (λ t.
    or_case _ _ _ t (λ u. same_low b 0x6E u (omega arith)) (λ t.
    or_case _ _ _ t (λ u. same_low b 0x72 u (omega arith)) (λ u. same_low b 0x74 u (omega arith))))))))

-- ---- characters

module _ (s : List ℕ) (i e : ℕ) where
  short_encoded : byte_at s i < 128 → byte_at s (i + 1) < 128 → Utf8 s (i + 2) e → Utf8 s i e
  short_encoded h k r = encoded_low s i e h (encoded_step s (i + 1) (i + 2) e (omega arith) k r)

  unit_encoded : byte_at s i < 128 → byte_at s (i + 1) < 128 → byte_at s (i + 2) < 128 → byte_at s (i + 3) < 128 → byte_at s (i + 4) < 128 → byte_at s (i + 5) < 128 → Utf8 s (i + 6) e → Utf8 s i e
  unit_encoded a b c d f g r =
      encoded_low s i e a (encoded_step s (i + 1) (i + 2) e (omega arith) b (encoded_step s (i + 2) (i + 3) e (omega arith) c
      (encoded_step s (i + 3) (i + 4) e (omega arith) d (encoded_step s (i + 4) (i + 5) e (omega arith) f (encoded_step s (i + 5) (i + 6) e (omega arith) g r)))))

  char_encoded : (j : ℕ) → Char s i j → Utf8 s j e → Utf8 s i e
  char_encoded j (Char.plain a b c d) r = Utf8.one {i = i} d r
  char_encoded j (Char.short a b) r = short_encoded (omega arith) (short-low _ b) r
  char_encoded j (Char.unit a b c d f g) r = unit_encoded (omega arith) (omega arith) (hex_low _ c) (hex_low _ d) (hex_low _ f) (hex_low _ g) r

chars_encoded : (s : List ℕ) (i e : ℕ) → Chars s i e → Utf8 s i e
chars_encoded s i e Chars.none = Utf8.done
chars_encoded s i e (Chars.more {j = j} c r) = char_encoded s i e j c (chars_encoded s j e r)

pub string_encoded : (s : List ℕ) (i e : ℕ) → String s i e → Utf8 s i e
string_encoded s i e (String.string {j = j} a r b) =
    encoded_low s i e (omega arith) (encoded_both s (i + 1) j e (chars_encoded s (i + 1) j r) (encoded_low s j e (omega arith) Utf8.done))
