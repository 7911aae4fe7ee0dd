-- What undoing the escapes byte by byte gives is what the rules say: the text of the string that they derive.
use Prim.Native.Nat.{ℕ, zero, suc, ◌+◌, ◌<◌, ◌≤◌}
use mathlib.Core.Path.{◌≡◌, refl, sym, ap, ◌∙◌}
use mathlib.Core.List.{List, [], ◌∷◌, ◌++◌}
use mathlib.Core.Bool.{Bool, true, false, ◌&&◌, true≢false}
use native.Mathlib.Omega.{arith}
use lib.ListN.{length, take, drop}
use Rattle.json_text.specs.tokens.Bytes.{choose, byte_at, same, inside}
use Rattle.json_text.specs.characters.Chars.{is_short, utf8_len, char_len, utf8_at}
use Rattle.json_text.specs.strings.Chars.{Char, Chars, String}
use Rattle.json_text.specs.strings.Names.{unit_at, utf8, short_byte, paired, lone_unit, is_pair, unit_bytes, char_bytes, unescaped, text_at}
use Rattle.json_text.specs.strings.Unescaped.{stands_for, all_stand, joined_units, string_text}
use Rattle.json_text.proofs.tokens.Laws.{if_yes, if_no, if-eq, if_ne, to_same, to-not-same, at_byte}
use Rattle.json_text.proofs.characters.Laws.{char_here, if-le}
use Rattle.json_text.proofs.strings.Characters.{char_plain, char_short, char_unit, char_found, short-not_u, quote_none}

-- ---- which characters begin a pair

utf8-le : (s : List ℕ) (i : ℕ) → utf8_at s i ≤ 4
unfolding utf8_at utf8_len
utf8-le s i = if-le 4 _ _ _ (omega arith) (if-le 4 _ _ _ (omega arith) (if-le 4 _ _ _ (omega arith) (if-le 4 _ _ _ (omega arith) (omega arith))))

and_no : (x : Bool) → (x && false) ≡ false
and_no true = refl
and_no false = refl

no_escape : (s : List ℕ) (i : ℕ) → (byte_at s i ≡ 0x5C → ⊥) → is_pair s i ≡ false
unfolding is_pair
no_escape s i a = rw (to-not-same (byte_at s i) 0x5C a)

no_u : (s : List ℕ) (i : ℕ) → (byte_at s (i + 1) ≡ 0x75 → ⊥) → is_pair s i ≡ false
unfolding is_pair
no_u s i a = rw (to-not-same (byte_at s (i + 1)) 0x75 a, and_no (same (byte_at s i) 0x5C))

short_u : (b : ℕ) → is_short b ≡ true → b ≡ 0x75 → ⊥
short_u b h e = true≢false (sym h ∙ short-not_u b e)

module _ (s : List ℕ) (i : ℕ) (a : byte_at s i ≡ 0x5C) (b : byte_at s (i + 1) ≡ 0x75) where
  -- no unit behind it
  no_other : (char_len s (i + 6) ≡ 6 → ⊥) → is_pair s i ≡ false
  unfolding is_pair
  no_other n = rw (to_same (byte_at s i) 0x5C a, to_same (byte_at s (i + 1)) 0x75 b, to-not-same (char_len s (i + 6)) 6 n) (and_no (inside 0xD800 0xDBFF (unit_at s (i + 2))))

  -- a unit behind it
  with_other : char_len s (i + 6) ≡ 6 → is_pair s i ≡ (inside 0xD800 0xDBFF (unit_at s (i + 2)) && inside 0xDC00 0xDFFF (unit_at s (i + 8)))
  unfolding is_pair
  with_other e = rw (to_same (byte_at s i) 0x5C a, to_same (byte_at s (i + 1)) 0x75 b, to_same (char_len s (i + 6)) 6 e)

-- ---- one step of undoing

module _ (s : List ℕ) (n i : ℕ) where
  step-one : (k : ℕ) → char_len s i ≡ k → (k ≡ 0 → ⊥) → is_pair s i ≡ false → unescaped s (suc n) i ≡ char_bytes s i ++ unescaped s n (i + k)
  unfolding unescaped
  step-one k e z p = if_ne _ _ _ _ (λ q. z (sym e ∙ q)) ∙ ap (λ (m : ℕ). char_bytes s i ++ unescaped s n (i + m)) (if_no _ _ _ p ∙ e)

  step-plain : (0x20 ≤ byte_at s i) → (byte_at s i ≡ 0x22 → ⊥) → (byte_at s i ≡ 0x5C → ⊥) → (utf8_at s i ≡ 0 → ⊥)
      → unescaped s (suc n) i ≡ take (utf8_at s i) (drop i s) ++ unescaped s n (i + utf8_at s i)
  unfolding char_bytes
  step-plain a b c d =
      let p = char_plain s i a b c in
      step-one (utf8_at s i) p d (no_escape s i c) ∙ ap (λ (l : List ℕ). l ++ unescaped s n (i + utf8_at s i)) (if_ne _ _ _ _ c ∙ ap (λ (m : ℕ). take m (drop i s)) p)

  step-short : byte_at s i ≡ 0x5C → is_short (byte_at s (i + 1)) ≡ true → unescaped s (suc n) i ≡ (short_byte (byte_at s (i + 1)) ∷ []) ++ unescaped s n (i + 2)
  unfolding char_bytes
  step-short a b =
      let u = short_u (byte_at s (i + 1)) b in
      step-one 2 (char_short s i a b) (λ q. omega (arith, q)) (no_u s i u) ∙ ap (λ (l : List ℕ). l ++ unescaped s n (i + 2)) (if-eq _ _ _ _ a ∙ if_ne _ _ _ _ u)

  module _ (a : byte_at s i ≡ 0x5C) (b : byte_at s (i + 1) ≡ 0x75) (l : char_len s i ≡ 6) where
    step-alone : is_pair s i ≡ false → unescaped s (suc n) i ≡ lone_unit (unit_at s (i + 2)) ++ unescaped s n (i + 6)
    unfolding char_bytes unit_bytes
    step-alone p =
        step-one 6 l (λ q. omega (arith, q)) p ∙ ap (λ (m : List ℕ). m ++ unescaped s n (i + 6)) (if-eq _ _ _ _ a ∙ if-eq _ _ _ _ b ∙ if_no _ _ _ p)

    step-pair : is_pair s i ≡ true → unescaped s (suc n) i ≡ utf8 (paired (unit_at s (i + 2)) (unit_at s (i + 8))) ++ unescaped s n (i + 12)
    unfolding unescaped char_bytes unit_bytes
    step-pair p =
        if_ne _ _ _ _ (λ q. omega (arith, l, q)) ∙ ap (λ (m : ℕ). char_bytes s i ++ unescaped s n (i + m)) (if_yes _ _ _ p)
        ∙ ap (λ (m : List ℕ). m ++ unescaped s n (i + 12)) (if-eq _ _ _ _ a ∙ if-eq _ _ _ _ b ∙ if_yes _ _ _ p)

-- a unit with another behind it, by whether the two are a pair
two_units : (t : Bool) (x p q : List ℕ) → (t ≡ true → x ≡ p) → (t ≡ false → x ≡ q) → x ≡ choose t p q
unfolding choose
two_units true x p q f g = f refl
two_units false x p q f g = g refl

append-none : (l : List ℕ) → l ++ [] ≡ l
append-none [] = refl
append-none (x ∷ l) = ap (λ (m : List ℕ). x ∷ m) (append-none l)

eight : (i : ℕ) → i + 8 ≡ i + 6 + 2
eight i = omega arith

twelve : (i : ℕ) → i + 12 ≡ i + 6 + 6
twelve i = omega arith

some : (n : ℕ) → (n ≡ 0 → ⊥) → 0 < n
some zero z = absurd (z refl)
some (suc n) z = omega arith

-- ---- all characters up to the quotation mark

chars_text : (s : List ℕ) (n i j : ℕ) → length s < n + i → byte_at s j ≡ 0x22 → (r : Chars s i j) → unescaped s n i ≡ joined_units (all_stand r)
unfolding unescaped joined_units all_stand stands_for
chars_text s zero i j h q Chars.none = absurd (omega (arith, at_byte s i 0x22 (omega arith) q))
chars_text s zero i j h q (Chars.more {j = k} c r) = absurd (omega (arith, char_here s i (char_len s i) refl (char_found s i k c).0))
chars_text s (suc n) i j h q Chars.none = if-eq _ _ _ _ (quote_none s i q)
chars_text s (suc n) i j h q (Chars.more (Char.plain a b c d) r) =
    step-plain s n i a b c d ∙ ap (λ (m : List ℕ). take (utf8_at s i) (drop i s) ++ m) (chars_text s n (i + utf8_at s i) j (omega (arith, some (utf8_at s i) d)) q r)
chars_text s (suc n) i j h q (Chars.more (Char.short a b) r) =
    step-short s n i a b ∙ ap (λ (m : List ℕ). short_byte (byte_at s (i + 1)) ∷ m) (chars_text s n (i + 2) j (omega arith) q r)
chars_text s (suc n) i j h q (Chars.more (Char.unit a b c d e f) Chars.none) =
    let z = quote_none s (i + 6) q in
    step-alone s n i a b (char_unit s i a b c d e f) (no_other s i a b (λ y. omega (arith, y, z)))
    ∙ ap (λ (m : List ℕ). lone_unit (unit_at s (i + 2)) ++ m) (chars_text s n (i + 6) j (omega arith) q Chars.none) ∙ append-none (lone_unit (unit_at s (i + 2)))
chars_text s (suc n) i j h q (Chars.more (Char.unit a b c d e f) (Chars.more (Char.plain k l o p) r)) =
    let z = char_plain s (i + 6) k l o in
    step-alone s n i a b (char_unit s i a b c d e f) (no_other s i a b (λ y. omega (arith, y, z, utf8-le s (i + 6))))
    ∙ ap (λ (m : List ℕ). lone_unit (unit_at s (i + 2)) ++ m) (chars_text s n (i + 6) j (omega arith) q (Chars.more (Char.plain k l o p) r))
chars_text s (suc n) i j h q (Chars.more (Char.unit a b c d e f) (Chars.more (Char.short k l) r)) =
    let z = char_short s (i + 6) k l in
    step-alone s n i a b (char_unit s i a b c d e f) (no_other s i a b (λ y. omega (arith, y, z)))
    ∙ ap (λ (m : List ℕ). lone_unit (unit_at s (i + 2)) ++ m) (chars_text s n (i + 6) j (omega arith) q (Chars.more (Char.short k l) r))
chars_text s (suc n) i j h q (Chars.more (Char.unit a b c d e f) (Chars.more (Char.unit k l o p u v) r)) =
    let w = char_unit s i a b c d e f in
    let z = with_other s i a b (char_unit s (i + 6) k l o p u v) ∙ ap (λ (m : ℕ). inside 0xD800 0xDBFF (unit_at s (i + 2)) && inside 0xDC00 0xDFFF (unit_at s m)) (eight i) in
    let x = chars_text s n (i + 6) j (omega arith) q (Chars.more (Char.unit k l o p u v) r) in
    let y = chars_text s n (i + 6 + 6) j (omega arith) q r in
    two_units _ _ _ _
    (λ t. step-pair s n i a b w (z ∙ t) ∙ ap (λ (m : ℕ). utf8 (paired (unit_at s (i + 2)) (unit_at s m)) ++ unescaped s n (i + 12)) (eight i)
    ∙ ap (λ (m : ℕ). utf8 (paired (unit_at s (i + 2)) (unit_at s (i + 6 + 2))) ++ unescaped s n m) (twelve i) ∙ ap (λ (m : List ℕ). utf8 (paired (unit_at s (i + 2)) (unit_at s (i + 6 + 2))) ++ m) y)
    (λ t. step-alone s n i a b w (z ∙ t) ∙ ap (λ (m : List ℕ). lone_unit (unit_at s (i + 2)) ++ m) x)

-- what is read at the string's place is the text of the string
pub text-own : (s : List ℕ) (i e : ℕ) (r : String s i e) → text_at s i ≡ string_text r
unfolding string_text
text-own s i e (String.string {j = j} a r b) = chars_text s (length s + 1) (i + 1) j (omega arith) b r
