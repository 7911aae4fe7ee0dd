-- Laws of strings; what is found by computing is what the rules derive.
use Prim.Native.Nat.{ℕ, zero, suc, ◌+◌, ◌<◌, ◌≤◌}
use mathlib.Core.Path.{◌≡◌, refl, sym, ap, subst, ◌∙◌}
use mathlib.Core.List.{List}
use mathlib.Core.Bool.{Bool, true, false}
use native.Mathlib.Omega.{arith}
use lib.ListN.{length, get_or}
use Rattle.refusal.proofs.Tests.{both}
use Rattle.json_text.specs.tokens.Bytes.{choose, same, under, byte_at}
use Rattle.std.specs.Prelude.{Option, Some, None}
use Rattle.json_text.proofs.tokens.Laws.{if_yes, if_no, if-eq, if_ne, if-case, nowhere, is_same, not_same, to_same, at_byte}
use Rattle.json_text.specs.characters.Chars.{is_hex, is_short, escape_len, utf8_at, char_len}
use Rattle.json_text.specs.strings.Chars.{chars_at, string_at, Char, Chars, String}
use Rattle.json_text.specs.strings.Chars.Chars.{none, more}
use Rattle.json_text.proofs.characters.Laws.{not-under, to-not-under, char_here}

pub chars_end : (s : List ℕ) (n i : ℕ) → length s < n + i → get_or s i 0 ≡ 0x22 → chars_at s n i ≡ Some (i + 1)
unfolding chars_at
chars_end s zero i h e = absurd (omega (arith, at_byte s i 0x22 (omega arith) e))
chars_end s (suc n) i h e = if-eq _ _ _ _ e

pub chars_bad : (s : List ℕ) (n i : ℕ) → (get_or s i 0 ≡ 0x22 → ⊥) → char_len s i ≡ 0 → chars_at s n i ≡ None
unfolding chars_at
chars_bad s zero i e z = refl
chars_bad s (suc n) i e z = if_ne _ _ _ _ e ∙ if-eq _ _ _ _ z

-- the answer a is that of n more characters from i on, so behind a character of k bytes it is that of fewer
pub chars_on : (s : List ℕ) (n i k : ℕ) (a : Option ℕ) → length s < n + i → a ≡ chars_at s n i → k ≡ char_len s i → (get_or s i 0 ≡ 0x22 → ⊥) → (k ≡ 0 → ⊥)
    → (m : ℕ) × (length s < m + (i + k)) × (a ≡ chars_at s m (i + k))
unfolding chars_at
chars_on s zero i k a h e q t z = absurd (omega (arith, char_here s i k q z))
chars_on s (suc n) i k a h e q t z = (n, omega arith, rw q (e ∙ if_ne _ _ _ _ t ∙ if_ne _ _ _ _ (λ y. z (q ∙ y))))

-- ---- a character's length is that of the character that the rules derive

pub char_plain : (s : List ℕ) (i : ℕ) → 0x20 ≤ byte_at s i → (byte_at s i ≡ 0x22 → ⊥) → (byte_at s i ≡ 0x5C → ⊥) → char_len s i ≡ utf8_at s i
unfolding char_len utf8_at
char_plain s i a b c = if_no _ _ _ (to-not-under _ _ a) ∙ if_ne _ _ _ _ b ∙ if_ne _ _ _ _ c

char_escape : (s : List ℕ) (i : ℕ) → byte_at s i ≡ 0x5C → char_len s i ≡ escape_len (byte_at s (i + 1)) (byte_at s (i + 2)) (byte_at s (i + 3)) (byte_at s (i + 4)) (byte_at s (i + 5))
unfolding char_len
char_escape s i a = if_no _ _ _ (to-not-under _ _ (omega arith)) ∙ if_ne _ _ _ _ (λ q. omega (arith, q)) ∙ if-eq _ _ _ _ a

pub char_short : (s : List ℕ) (i : ℕ) → byte_at s i ≡ 0x5C → is_short (byte_at s (i + 1)) ≡ true → char_len s i ≡ 2
unfolding escape_len
char_short s i a b = char_escape s i a ∙ if_yes _ _ _ b

pub short-not_u : (b : ℕ) → b ≡ 0x75 → is_short b ≡ false
unfolding is_short same
short-not_u b e = rw e

pub char_unit : (s : List ℕ) (i : ℕ) → byte_at s i ≡ 0x5C → byte_at s (i + 1) ≡ 0x75
    → is_hex (byte_at s (i + 2)) ≡ true → is_hex (byte_at s (i + 3)) ≡ true → is_hex (byte_at s (i + 4)) ≡ true → is_hex (byte_at s (i + 5)) ≡ true → char_len s i ≡ 6
unfolding escape_len
char_unit s i a b c d e f =
    char_escape s i a ∙ if_no _ _ _ (short-not_u _ b) ∙ if_yes _ _ _ (rw (to_same _ _ b, c, d, e, f))

pub char_found : (s : List ℕ) (i j : ℕ) → Char s i j → (char_len s i ≡ 0 → ⊥) × (i + char_len s i ≡ j)
char_found s i j (Char.plain a b c d) = let p = char_plain s i a b c in (λ z. d (sym p ∙ z), ap (λ (n : ℕ). i + n) p)
char_found s i j (Char.short a b) = let p = char_short s i a b in (λ z. omega (arith, p, z), ap (λ (n : ℕ). i + n) p)
char_found s i j (Char.unit a b c d e f) = let p = char_unit s i a b c d e f in (λ z. omega (arith, p, z), ap (λ (n : ℕ). i + n) p)

if-is : (C : Type 0) (t : Bool) (a b n : ℕ) → choose t a b ≡ n → (t ≡ true → a ≡ n → C) → (t ≡ false → b ≡ n → C) → C
unfolding choose
if-is C true a b n h f g = f refl h
if-is C false a b n h f g = g refl h

char_sound : (s : List ℕ) (i n : ℕ) → char_len s i ≡ n → (n ≡ 0 → ⊥) → Char s i (i + n)
unfolding char_len escape_len utf8_at
char_sound s i n q z =
    if-is (Char s i (i + n)) _ _ _ n q (λ t p. absurd (z (sym p)))
    (λ t p. if-is (Char s i (i + n)) _ _ _ n p (λ u w. absurd (z (sym w)))
    (λ u w. if-is (Char s i (i + n)) _ _ _ n w
    (λ v x. if-is (Char s i (i + n)) _ _ _ n x (λ k l. subst (λ (m : ℕ). Char s i (i + m)) l (Char.short (is_same _ _ v) k))
    (λ k l. if-is (Char s i (i + n)) _ _ _ n l
    (λ m o.
    let a = both (same (byte_at s (i + 1)) 0x75) _ m in
    let b = both (is_hex (byte_at s (i + 2))) _ a.1 in
    let c = both (is_hex (byte_at s (i + 3))) _ b.1 in
    let d = both (is_hex (byte_at s (i + 4))) (is_hex (byte_at s (i + 5))) c.1 in
    subst (λ (m : ℕ). Char s i (i + m)) o (Char.unit (is_same _ _ v) (is_same _ _ a.0) b.0 c.0 d.0 d.1))
    (λ m o. absurd (z (sym o)))))
    (λ v x. subst (λ (m : ℕ). Char s i (i + m)) x (Char.plain (not-under _ _ t) (not_same _ _ u) (not_same _ _ v) (λ y. z (sym x ∙ y))))))

-- ---- sound: what is found is derived

chars_sound : (s : List ℕ) (n i e : ℕ) → chars_at s n i ≡ Some e → (j : ℕ) × (Chars s i j) × (byte_at s j ≡ 0x22) × (e ≡ j + 1)
unfolding chars_at
chars_sound s zero i e q = nowhere _ e q
chars_sound s (suc n) i e q =
    if-case _ _ _ _ _ q
    (λ t p. let z : i + 1 ≡ e = cc in (i, none, is_same _ _ t, sym z))
    (λ t p. if-case _ _ _ _ _ p (λ u w. nowhere _ e w)
    (λ u w. let r = chars_sound s n (i + char_len s i) e w in (r.0, more (char_sound s i (char_len s i) refl (not_same _ _ u)) r.1, r.2, r.3)))

pub string-sound : (s : List ℕ) (i e : ℕ) → string_at s i ≡ Some e → String s i e
unfolding string_at
string-sound s i e q =
    if-case _ _ _ _ _ q
    (λ t p. let r = chars_sound s (length s) (i + 1) e p in rw r.3 (String.string (is_same _ _ t) r.1 r.2))
    (λ t p. nowhere _ e p)

-- ---- complete: what is derived is found

-- no character is at a quotation mark
pub quote_none : (s : List ℕ) (i : ℕ) → byte_at s i ≡ 0x22 → char_len s i ≡ 0
unfolding char_len
quote_none s i q = go (under (byte_at s i) 0x20) refl
  where
    go : (t : Bool) → under (byte_at s i) 0x20 ≡ t → char_len s i ≡ 0
    go true u = if_yes _ _ _ u
    go false u = if_no _ _ _ u ∙ if-eq _ _ _ _ q

chars_complete : (s : List ℕ) (n i j : ℕ) → length s < n + i → byte_at s j ≡ 0x22 → Chars s i j → chars_at s n i ≡ Some (j + 1)
chars_complete s n i j h b none = chars_end s n i h b
chars_complete s n i j h b (more {j = k} c r) =
    let z = char_found s i k c in
    let x = chars_on s n i (char_len s i) (chars_at s n i) h refl refl (λ y. z.0 (quote_none s i y)) z.0 in
    x.2 ∙ rw z.1 (chars_complete s x.0 k j (rw z.1 at x.1) b r)

pub string_complete : (s : List ℕ) (i e : ℕ) → String s i e → string_at s i ≡ Some e
unfolding string_at
string_complete s i e (String.string {j = j} a r b) = if-eq _ _ _ _ a ∙ chars_complete s (length s) (i + 1) j (omega arith) b r

pub string-first : (s : List ℕ) (i e : ℕ) → String s i e → byte_at s i ≡ 0x22
string-first s i e (String.string a r b) = a
