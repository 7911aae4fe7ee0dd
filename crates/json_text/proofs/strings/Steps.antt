-- What the functions of this module need: each way out as a case of its definition. b, n, t, r are what was read or what calls gave.
use Prim.Native.Nat.{ℕ, zero, suc, ◌+◌, ◌-◌, ◌*◌, ◌^◌, ◌<◌, ◌≤◌}
use mathlib.Core.Path.{◌≡◌, refl, sym, ◌∙◌}
use mathlib.Core.List.{List, [], ◌∷◌}
use mathlib.Core.Bool.{Bool, true, false, not, ◌&&◌}
use native.Mathlib.Omega.{arith}
use borrow.Author.Tests.{eqb-true, eqb-false, eq-eqb, ne_eqb, ltb-true, leb-true, not-true}
use lib.ListN.{length, get_or, drop}
use lib.Dec.{ltb, leb, eqb}
use mir.Syntax.{w64}
use mir.Val.{Fits}
use Rattle.refusal.proofs.Tests.{both}
use Rattle.json_text.specs.tokens.Bytes.{inside, is_digit, span}
use Rattle.std.specs.Prelude.{Some, None}
use Rattle.json_text.proofs.tokens.Laws.{if-eq, if_ne, in_text, span-on, span_stop, le-span}
use Rattle.json_text.proofs.characters.Steps.{if-lt, plain-zero, plain-low, plain_mark, plain_slash, plain-one}
use Rattle.json_text.specs.characters.Chars.{is_plain, char_len}
use Rattle.json_text.specs.strings.Chars.{chars_at, string_at}
use Rattle.json_text.specs.strings.Names.{unescaped, eq_list, ascii, ascii_of, ascii_at, differs}
use Rattle.json_text.proofs.characters.Laws.{char_here, char_le}
use Rattle.json_text.proofs.strings.Characters.{chars_end, chars_bad, chars_on}
use Rattle.json_text.proofs.strings.Naming.{name-end, name-no, name-long, name-on}

-- ---- the string that begins at `at` is passed up to i

pub record Passing (s : List ℕ) (at i : ℕ) : Type 0 where
  pub fuel : ℕ
  pub enough : length s < fuel + i
  pub left : string_at s at ≡ chars_at s fuel i

pub pass_none : (s : List ℕ) (at : ℕ) {b : ℕ} → b ≡ get_or s at 0 → (b ≡ 34 → ⊥) → None ≡ string_at s at
unfolding string_at
pass_none s at eb n = sym (if_ne _ _ _ _ (λ q. n (eb ∙ q)))

pub pass_start : (s : List ℕ) (at : ℕ) {b : ℕ} → b ≡ get_or s at 0 → b ≡ 34 → Passing s at (at + 1)
unfolding string_at
pass_start s at eb t = record { fuel = length s; enough = omega arith; left = if-eq _ _ _ _ (sym eb ∙ t) }

pass_char : {s : List ℕ} {at i : ℕ} (c : ℕ) → Passing s at i → c ≡ char_len s i → (get_or s i 0 ≡ 34 → ⊥) → (c ≡ 0 → ⊥) → Passing s at (i + c)
pass_char {s} {at} {i} c k ec n z =
    let x = chars_on s k.fuel i c (string_at s at) k.enough k.left ec n z in
    record { fuel = x.0; enough = x.1; left = x.2 }

-- plain characters are passed one by one
plain_turn : (s : List ℕ) (at i : ℕ) (t : Bool) → is_plain (get_or s i 0) ≡ t → Passing s at i → (i < length s → Passing s at (i + 1) → Passing s at (span is_plain s (i + 1))) → Passing s at (span is_plain s i)
plain_turn s at i false e k f = rw (span_stop is_plain s i e) k
plain_turn s at i true e k f =
    rw (span-on is_plain s i plain-zero e) (f (in_text is_plain s i plain-zero e) (pass_char 1 k (sym (plain-one s i e)) (plain_mark s i e) (λ q. omega (arith, q))))

pass_plain : (s : List ℕ) (at n i : ℕ) → length s ≤ n + i → Passing s at i → Passing s at (span is_plain s i)
pass_plain s at zero i h k = plain_turn s at i (is_plain (get_or s i 0)) refl k (λ l p. absurd (omega (arith, l)))
pass_plain s at (suc n) i h k = plain_turn s at i (is_plain (get_or s i 0)) refl k (λ l p. pass_plain s at n (i + 1) (omega arith) p)

module _ {s : List ℕ} {at i : ℕ} (k : Passing s at i) {e : ℕ} (ee : e ≡ span is_plain s i) {b : ℕ} (eb : b ≡ get_or s e 0) where
  there : Passing s at e
  there = rw ee (pass_plain s at (length s) i (omega arith) k)

  pub pass_end : b ≡ 34 → Some (e + 1) ≡ string_at s at
  pass_end t = sym (there.left ∙ chars_end s there.fuel e there.enough (sym eb ∙ t))

  module _ (n : b ≡ 34 → ⊥) {c : ℕ} (ec : c ≡ char_len s e) where
    pub pass_bad : c ≡ 0 → None ≡ string_at s at
    pass_bad z = sym (there.left ∙ chars_bad s there.fuel e (λ q. n (eb ∙ q)) (sym ec ∙ z))

    module _ (z : c ≡ 0 → ⊥) where
      pub pass_on : Passing s at (e + c)
      pass_on = pass_char c there ec (λ q. n (eb ∙ q)) z

      pub pass_less : length s - (e + c) < length s - i
      pass_less = omega (arith, char_here s e c ec z, z, le-span is_plain s i)

module _ (s : List ℕ) (i : ℕ) {c : ℕ} (ec : c ≡ char_len s i) (z : c ≡ 0 → ⊥) where
  pub char_inside : i < length s
  char_inside = char_here s i c ec z

  pub char_room : length s * 1 < 2 ^ 63 → Fits w64 (i + c)
  char_room h = omega (arith, char_here s i c ec z, char_le s i)

-- ---- what a character stands for

module _ (b : ℕ) {t : Bool} (et : t ≡ is_digit b) where
  module _ (e : t ≡ true) where
    pub digit_least : 48 ≤ b
    unfolding is_digit inside
    digit_least = leb-true 0x30 b (both (leb 0x30 b) (leb b 0x39) (sym et ∙ e)).0

pub upper-least : (b : ℕ) → (leb 65 b && leb b 70) ≡ true → 55 ≤ b
upper-least b u = omega (arith, leb-true 65 b (both (leb 65 b) (leb b 70) u).0)

-- ---- the characters from `at` on agree with the name up to i and k

ascii-below : (l : List ℕ) → ascii l ≡ true → (k : ℕ) → get_or l k 0 < 128
ascii-below [] e k = omega arith
ascii-below (b ∷ l) e zero = ltb-true b 128 (both (ltb b 128) (ascii l) e).0
ascii-below (b ∷ l) e (suc k) = ascii-below l (both (ltb b 128) (ascii l) e).1 k

pub record Agreeing (s name : List ℕ) (at i k : ℕ) : Type 0 where
  pub fuel : ℕ
  pub enough : length s < fuel + i
  pub part : k ≤ length name
  pub left : eq_list (unescaped s (length s + 1) at) name ≡ eq_list (unescaped s fuel i) (drop k name)

pub agree_start : (s name : List ℕ) (at : ℕ) → Agreeing s name at at 0
agree_start s name at = record { fuel = length s + 1; enough = omega arith; part = omega arith; left = refl }

module _ {s name : List ℕ} {at i k : ℕ} (g : Agreeing s name at i k) {c : ℕ} (ec : c ≡ char_len s i) where
  no_end : (c ≡ 0 → ⊥) → char_len s i ≡ 0 → ⊥
  no_end z q = z (ec ∙ q)

  -- the string ends within the name
  pub agree_short : c ≡ 0 → k < length name → false ≡ eq_list (unescaped s (length s + 1) at) name
  agree_short z h = sym (g.left ∙ name-end s name g.fuel i k g.part (sym ec ∙ z) ∙ ne_eqb k (length name) (omega arith))

  -- the name has ended
  pub agree_end : length name ≤ k → eqb c 0 ≡ eq_list (unescaped s (length s + 1) at) name
  agree_end h = go (eqb c 0) refl
    where
      go : (t : Bool) → eqb c 0 ≡ t → t ≡ eq_list (unescaped s (length s + 1) at) name
      go true e = sym (g.left ∙ name-end s name g.fuel i k g.part (sym ec ∙ eqb-true c 0 e) ∙ eq-eqb k (length name) (omega (arith, g.part)))
      go false e = sym (g.left ∙ name-long s name g.fuel i k g.enough (no_end (eqb-false c 0 e)) h)

  module _ (z : c ≡ 0 → ⊥) (small : ascii name ≡ true) {a : ℕ} (ea : a ≡ ascii_at s i) where
    pub agree_no : (a ≡ get_or name k 0 → ⊥) → false ≡ eq_list (unescaped s (length s + 1) at) name
    agree_no n = sym (g.left ∙ name-no s name g.fuel i k g.enough (no_end z) (ascii-below name small) (λ q. n (ea ∙ q)))

    pub agree_on : k < length name → a ≡ get_or name k 0 → Agreeing s name at (i + c) (k + 1)
    agree_on h e =
        let x = name-on s name g.fuel i k c (eq_list (unescaped s (length s + 1) at) name) g.enough g.left ec z h (ascii-below name small) (sym ea ∙ e) in
        record { fuel = x.0; enough = x.1; part = omega (arith, h); left = x.2 }

-- ---- the first byte

module _ (s : List ℕ) (i : ℕ) (e : is_plain (get_or s i 0) ≡ true) where
  pub plain-itself : ascii_at s i ≡ get_or s i 0
  unfolding ascii_at ascii_of
  plain-itself = if_ne _ _ _ _ (plain_slash s i e) ∙ if-lt _ _ _ _ (omega (arith, (plain-low s i e).1))

pub name-differs : (s : List ℕ) (i : ℕ) (name : List ℕ) {t : Bool} → ascii name ≡ true → t ≡ differs s i name → t ≡ true → false ≡ eq_list (unescaped s (length s + 1) i) name
unfolding differs
name-differs s i name small et e =
    let p = both (is_plain (get_or s i 0)) (not (eqb (get_or s i 0) (get_or name 0 0))) (sym et ∙ e) in
    let n = eqb-false (get_or s i 0) (get_or name 0 0) (not-true _ p.1) in
    let z : char_len s i ≡ 0 → ⊥ = λ q. omega (arith, plain-one s i p.0, q) in
    sym (name-no s name (length s + 1) i 0 (omega arith) z (ascii-below name small) (λ q. n (sym (plain-itself s i p.0) ∙ q)))
