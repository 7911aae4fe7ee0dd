-- A string against a name of ASCII, character by character.
use Prim.Native.Nat.{ℕ, zero, suc, ◌+◌, ◌<◌, ◌≤◌}
use mathlib.Core.Path.{◌≡◌, refl, sym, ap, ◌∙◌}
use mathlib.Core.List.{List, [], ◌∷◌, ◌++◌}
use mathlib.Core.Bool.{Bool, true, false, ◌&&◌}
use native.Mathlib.Omega.{arith}
use native.Mathlib.Numerals.{add-one}
use lib.ListN.{length, get_or, take, drop, drop_of_length-le}
use lib.Seq.{drop-cons}
use borrow.Author.Tests.{ltb-true, ltb-false, leb-true, eq-eqb, ne_eqb}
use Rattle.json_text.specs.tokens.Bytes.{choose, byte_at, same, under, inside}
use Rattle.json_text.specs.characters.Chars.{char_len, utf8_len}
use Rattle.json_text.specs.strings.Names.{unit_at, utf8, lone_unit, is_pair, unit_bytes, char_bytes, unescaped, eq_list, ascii_of, ascii_at}
use lib.Dec.{leb, ltb, eqb}
use Rattle.json_text.proofs.tokens.Laws.{if_yes, if_no, if-eq, if_ne, to-not-same}
use Rattle.json_text.proofs.characters.Laws.{is-under, not-under, char_here}
use Rattle.refusal.proofs.Tests.{both}

-- l is a alone, a byte below 128; or it begins with a number of at least 128, and a is no such byte
data Head : ℕ → List ℕ → Type 0 where
  low : {a : ℕ} → a < 128 → Head a (a ∷ [])
  high : {a x : ℕ} {r : List ℕ} → 128 ≤ a → 128 ≤ x → Head a (x ∷ r)

if-head : (t : Bool) (a b : ℕ) (l m : List ℕ) → (t ≡ true → Head a l) → (t ≡ false → Head b m) → Head (choose t a b) (choose t l m)
unfolding choose
if-head true a b l m p q = p refl
if-head false a b l m p q = q refl

if-list : (a : ℕ) (t : Bool) (l m : List ℕ) → (t ≡ true → Head a l) → (t ≡ false → Head a m) → Head a (choose t l m)
unfolding choose
if-list a true l m p q = p refl
if-list a false l m p q = q refl

utf8-head : (c : ℕ) → Head (ascii_of c) (utf8 c)
unfolding utf8 ascii_of
utf8-head c =
    if-head _ _ _ _ _ (λ t. low (is-under _ _ t))
    (λ t. if-list 128 _ _ _ (λ u. high (omega arith) (omega arith)) (λ u. if-list 128 _ _ _ (λ v. high (omega arith) (omega arith)) (λ v. high (omega arith) (omega arith))))

-- a code point from 128 on
big : (a c : ℕ) → 128 ≤ a → 128 ≤ c → Head a (utf8 c)
unfolding utf8
big a c h p =
    if-list a _ _ _ (λ t. high h p)
    (λ t. if-list a _ _ _ (λ u. high h (omega arith)) (λ u. if-list a _ _ _ (λ v. high h (omega arith)) (λ v. high h (omega arith))))

one-head : (c : ℕ) → Head (ascii_of c) (c ∷ [])
unfolding ascii_of
one-head c = go (under c 0x80) refl
  where
    go : (t : Bool) → under c 0x80 ≡ t → Head (ascii_of c) (c ∷ [])
    go true t = rw (if_yes _ c 0x80 t) (low (is-under _ _ t))
    go false t = rw (if_no _ c 0x80 t) (high {a = 0x80} (omega arith) (not-under _ _ t))

from : (lo hi b : ℕ) → inside lo hi b ≡ true → lo ≤ b
unfolding inside
from lo hi b e = leb-true lo b (both (leb lo b) (leb b hi) e).0

ascii_big : (u : ℕ) → 128 ≤ u → 128 ≤ ascii_of u
unfolding ascii_of
ascii_big u h = go (under u 0x80) refl
  where
    go : (t : Bool) → under u 0x80 ≡ t → 128 ≤ choose (under u 0x80) u 0x80
    go true t = absurd (omega (arith, is-under u 0x80 t))
    go false t = rw (if_no _ u 0x80 t) (omega arith)

pair-unit : (s : List ℕ) (i : ℕ) → is_pair s i ≡ true → (same (byte_at s i) 0x5C ≡ true) × (same (byte_at s (i + 1)) 0x75 ≡ true) × (128 ≤ unit_at s (i + 2))
unfolding is_pair
pair-unit s i e =
    let p = both (same (byte_at s i) 0x5C && same (byte_at s (i + 1)) 0x75) _ e in
    let q = both (same (byte_at s i) 0x5C) (same (byte_at s (i + 1)) 0x75) p.0 in
    let r = from 0xD800 0xDBFF (unit_at s (i + 2)) (both (inside 0xD800 0xDBFF (unit_at s (i + 2))) _ p.1).0 in
    (q.0, q.1, omega arith)

unit-head : (s : List ℕ) (i : ℕ) → Head (ascii_of (unit_at s (i + 2))) (unit_bytes s i)
unfolding unit_bytes lone_unit
unit-head s i =
    if-list _ _ _ _ (λ t. big _ _ (ascii_big _ (pair-unit s i t).2) (omega arith))
    (λ t. if-list _ _ _ _ (λ u. high (ascii_big _ (omega (arith, from 0xD800 0xDFFF (unit_at s (i + 2)) u))) (omega arith)) (λ u. utf8-head _))

raw_one : (s : List ℕ) (i : ℕ) → same (byte_at s i) 0x5C ≡ false → (char_len s i ≡ 0 → ⊥) → under (byte_at s i) 0x80 ≡ true → char_len s i ≡ 1
unfolding char_len utf8_len
raw_one s i e z u = go (under (byte_at s i) 0x20) refl (same (byte_at s i) 0x22) refl
  where
    go : (t : Bool) → under (byte_at s i) 0x20 ≡ t → (v : Bool) → same (byte_at s i) 0x22 ≡ v → char_len s i ≡ 1
    go true t v w = absurd (z (if_yes _ _ _ t))
    go false t true w = absurd (z (if_no _ _ _ t ∙ if_yes _ _ _ w))
    go false t false w = if_no _ _ _ t ∙ if_no _ _ _ w ∙ if_no _ _ _ e ∙ if_yes _ _ _ u

raw_head : (s : List ℕ) (i : ℕ) → same (byte_at s i) 0x5C ≡ false → (char_len s i ≡ 0 → ⊥) → Head (ascii_of (byte_at s i)) (take (char_len s i) (drop i s))
raw_head s i e z = go (char_len s i) refl (under (byte_at s i) 0x80) refl
  where
    h : i < length s
    h = char_here s i (char_len s i) refl z

    go : (n : ℕ) → char_len s i ≡ n → (t : Bool) → under (byte_at s i) 0x80 ≡ t → Head (ascii_of (byte_at s i)) (take (char_len s i) (drop i s))
    go zero q t u = absurd (z q)
    go (suc n) q true u = rw (raw_one s i e z u, drop-cons s i 0 h) (one-head (byte_at s i))
    go (suc n) q false u = rw (q, drop-cons s i 0 h) (high (ascii_big _ (not-under _ _ u)) (not-under _ _ u))

char_head : (s : List ℕ) (i : ℕ) → (char_len s i ≡ 0 → ⊥) → Head (ascii_at s i) (char_bytes s i)
unfolding ascii_at char_bytes
char_head s i z = if-head _ _ _ _ _ (λ t. if-head _ _ _ _ _ (λ u. unit-head s i) (λ u. one-head _)) (λ t. raw_head s i t z)

no-pair : (s : List ℕ) (i : ℕ) → ascii_at s i < 128 → is_pair s i ≡ false
unfolding ascii_at
no-pair s i h = go (is_pair s i) refl
  where
    go : (t : Bool) → is_pair s i ≡ t → is_pair s i ≡ false
    go true t =
        let p = pair-unit s i t in
        let q : ascii_at s i ≡ ascii_of (unit_at s (i + 2)) = if_yes _ _ _ p.0 ∙ if_yes _ _ _ p.1 in
        absurd (omega (arith, ascii_big (unit_at s (i + 2)) p.2))
    go false t = t

-- The rest of the name against what is left of the text.
eq-none : (k : ℕ) (l : List ℕ) → k ≤ length l → eq_list [] (drop k l) ≡ eqb k (length l)
unfolding eq_list
eq-none k l h = go (ltb k (length l)) refl
  where
    go : (t : Bool) → ltb k (length l) ≡ t → eq_list [] (drop k l) ≡ eqb k (length l)
    go true t = let p : k < length l = ltb-true k (length l) t in rw (drop-cons l k 0 p) (sym (ne_eqb k (length l) (omega arith)))
    go false t = let p : length l ≤ k = ltb-false k (length l) t in rw (drop_of_length-le l p) (sym (eq-eqb k (length l) (omega arith)))

pub name-end : (s l : List ℕ) (n i k : ℕ) → k ≤ length l → char_len s i ≡ 0 → eq_list (unescaped s n i) (drop k l) ≡ eqb k (length l)
unfolding unescaped
name-end s l zero i k h z = eq-none k l h
name-end s l (suc n) i k h z = ap (λ (t : List ℕ). eq_list t (drop k l)) (if-eq _ _ _ _ z) ∙ eq-none k l h

-- what a character's bytes and a tail are against a list
eq-low : (a : ℕ) (u l : List ℕ) (k : ℕ) → k < length l → a ≡ get_or l k 0 → eq_list ((a ∷ []) ++ u) (drop k l) ≡ eq_list u (drop (k + 1) l)
unfolding eq_list
eq-low a u l k h e = rw (add-one k, drop-cons l k 0 h) (if-eq _ _ _ _ e)

eq_no : (a : ℕ) (b u l : List ℕ) (k : ℕ) → ((m : ℕ) → get_or l m 0 < 128) → (a ≡ get_or l k 0 → ⊥) → Head a b → eq_list (b ++ u) (drop k l) ≡ false
unfolding eq_list
eq_no a b u l k small e hd = go (ltb k (length l)) refl b hd
  where
    go : (t : Bool) → ltb k (length l) ≡ t → (b : List ℕ) → Head a b → eq_list (b ++ u) (drop k l) ≡ false
    go true t b (low p) = let h : k < length l = ltb-true k (length l) t in rw (drop-cons l k 0 h) (if_ne _ _ _ _ e)
    go true t b (high {x = x} p q) = let h : k < length l = ltb-true k (length l) t in rw (drop-cons l k 0 h) (if_no _ _ _ (to-not-same x (get_or l k 0) (omega (arith, small k))))
    go false t b (low p) = let h : length l ≤ k = ltb-false k (length l) t in rw (drop_of_length-le l h)
    go false t b (high p q) = let h : length l ≤ k = ltb-false k (length l) t in rw (drop_of_length-le l h)

eq-long : (a : ℕ) (b u l : List ℕ) (k : ℕ) → length l ≤ k → Head a b → eq_list (b ++ u) (drop k l) ≡ false
unfolding eq_list
eq-long a b u l k h (low p) = rw (drop_of_length-le l h)
eq-long a b u l k h (high p q) = rw (drop_of_length-le l h)

alone : (a : ℕ) (b : List ℕ) → a < 128 → Head a b → b ≡ a ∷ []
alone a b h (low p) = refl
alone a b h (high p q) = absurd (omega arith)

pub name-no : (s l : List ℕ) (n i k : ℕ) → length s < n + i → (char_len s i ≡ 0 → ⊥) → ((m : ℕ) → get_or l m 0 < 128) → (ascii_at s i ≡ get_or l k 0 → ⊥) → eq_list (unescaped s n i) (drop k l) ≡ false
unfolding unescaped
name-no s l zero i k h z small e = absurd (omega (arith, char_here s i (char_len s i) refl z))
name-no s l (suc n) i k h z small e = ap (λ (t : List ℕ). eq_list t (drop k l)) (if_ne _ _ _ _ z) ∙ (eq_no (ascii_at s i) (char_bytes s i) _ l k small e (char_head s i z))

pub name-long : (s l : List ℕ) (n i k : ℕ) → length s < n + i → (char_len s i ≡ 0 → ⊥) → length l ≤ k → eq_list (unescaped s n i) (drop k l) ≡ false
unfolding unescaped
name-long s l zero i k h z p = absurd (omega (arith, char_here s i (char_len s i) refl z))
name-long s l (suc n) i k h z p = ap (λ (t : List ℕ). eq_list t (drop k l)) (if_ne _ _ _ _ z) ∙ (eq-long (ascii_at s i) (char_bytes s i) _ l k p (char_head s i z))

pub name-on : (s l : List ℕ) (n i k c : ℕ) (r : Bool) → length s < n + i → r ≡ eq_list (unescaped s n i) (drop k l) → c ≡ char_len s i → (c ≡ 0 → ⊥) → k < length l → ((m : ℕ) → get_or l m 0 < 128) → ascii_at s i ≡ get_or l k 0
    → (m : ℕ) × (length s < m + (i + c)) × (r ≡ eq_list (unescaped s m (i + c)) (drop (k + 1) l))
unfolding unescaped
name-on s l zero i k c r h x q z p small e = absurd (omega (arith, char_here s i c q z))
name-on s l (suc n) i k c r h x q z p small e =
    let a : ascii_at s i < 128 = omega (arith, e, small k) in
    (n, omega arith, rw q (x ∙ ap (λ (t : List ℕ). eq_list t (drop k l)) (if_ne _ 0 [] _ (λ y. z (q ∙ y)) ∙ rw (alone (ascii_at s i) (char_bytes s i) a (char_head s i (λ y. z (q ∙ y))), if_no (is_pair s i) 12 (char_len s i) (no-pair s i a))) ∙ eq-low (ascii_at s i) _ l k p e))
