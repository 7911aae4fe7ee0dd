-- Laws of choices, bytes and spans.
use Prim.Native.Nat.{ℕ, zero, suc, ◌+◌, ◌-◌, ◌<◌, ◌≤◌, max}
use mathlib.Core.Path.{◌≡◌, refl, sym, ap, ◌∙◌}
use mathlib.Core.List.{List, [], ◌∷◌}
use mathlib.Core.Bool.{Bool, true, false, true≢false}
use native.Mathlib.Omega.{arith}
use native.Mathlib.Numerals.{add-one}
use lib.ListN.{length, get_or, drop, length-drop, get_or-eq_default, drop_of_length-le}
use lib.Seq.{drop-cons}
use lib.Dec.{ltb}
use borrow.Author.Tests.{eqb-true, eqb-false, ltb-true, ltb-false, eq-eqb, ne_eqb, lt-ltb}
use Rattle.json_text.specs.tokens.Bytes.{choose, same, inside, is_ws, is_digit, span_in, span}
use Rattle.json_text.specs.tokens.Parts.{and_then, follow, ws}
use Rattle.std.specs.Prelude.{Option, Some, None}

-- ---- which side a test chooses

pub if_yes : {A : Type 0} (t : Bool) (a b : A) → t ≡ true → choose t a b ≡ a
unfolding choose
if_yes t a b e = rw e

pub if_no : {A : Type 0} (t : Bool) (a b : A) → t ≡ false → choose t a b ≡ b
unfolding choose
if_no t a b e = rw e

pub is_same : (a b : ℕ) → same a b ≡ true → a ≡ b
unfolding same
is_same a b e = eqb-true a b e

pub not_same : (a b : ℕ) → same a b ≡ false → a ≡ b → ⊥
unfolding same
not_same a b e = eqb-false a b e

pub to_same : (a b : ℕ) → a ≡ b → same a b ≡ true
unfolding same
to_same a b e = eq-eqb a b e

pub to-not-same : (a b : ℕ) → (a ≡ b → ⊥) → same a b ≡ false
unfolding same
to-not-same a b e = ne_eqb a b e

pub if-eq : {A : Type 0} (m n : ℕ) (a b : A) → m ≡ n → choose (same m n) a b ≡ a
if-eq m n a b e = if_yes (same m n) a b (to_same m n e)

pub if_ne : {A : Type 0} (m n : ℕ) (a b : A) → (m ≡ n → ⊥) → choose (same m n) a b ≡ b
if_ne m n a b e = if_no (same m n) a b (to-not-same m n e)

pub then_at : (r : Option ℕ) (f : ℕ → Option ℕ) (n : ℕ) → r ≡ Some n → and_then r f ≡ f n
unfolding and_then
then_at r f n e = rw e

pub then_nothing : (r : Option ℕ) (f : ℕ → Option ℕ) → r ≡ None → and_then r f ≡ None
unfolding and_then
then_nothing r f e = rw e

pub follow-at : {A : Type 0} (r : Option ℕ) (f : ℕ → A) (o : A) (n : ℕ) → r ≡ Some n → follow r f o ≡ f n
unfolding follow
follow-at r f o n e = rw e

pub follow_nothing : {A : Type 0} (r : Option ℕ) (f : ℕ → A) (o : A) → r ≡ None → follow r f o ≡ o
unfolding follow
follow_nothing r f o e = rw e

-- ---- a choice, or a sequence, taken apart by what came out

pub if-case : (C : Type 0) (t : Bool) (a b r : Option ℕ) → choose t a b ≡ r → (t ≡ true → a ≡ r → C) → (t ≡ false → b ≡ r → C) → C
unfolding choose
if-case C true a b r q f g = f refl q
if-case C false a b r q f g = g refl q

pub nowhere : (C : Type 0) (e : ℕ) → None ≡ Some e → C
nowhere C e q = let z : ◌≡◌ {A = ℕ} 0 1 = cc in absurd (omega arith)

pub then-case : (C : Type 0) (r : Option ℕ) (f : ℕ → Option ℕ) (e : ℕ) → and_then r f ≡ Some e → ((n : ℕ) → r ≡ Some n → f n ≡ Some e → C) → C
unfolding and_then
then-case C (Some n) f e q g = g n refl q
then-case C None f e q g = nowhere C e q

pub follow-case : (C : Type 0) (r : Option ℕ) (f : ℕ → Option ℕ) (o a : Option ℕ) → follow r f o ≡ a → ((n : ℕ) → r ≡ Some n → f n ≡ a → C) → (r ≡ None → o ≡ a → C) → C
unfolding follow
follow-case C (Some n) f o a q g h = g n refl q
follow-case C None f o a q g h = h refl q

-- ---- bytes

-- a byte in a class that 0 is not in stands within the text
pub in_text : (class : ℕ → Bool) (s : List ℕ) (i : ℕ) → class 0 ≡ false → class (get_or s i 0) ≡ true → i < length s
in_text class s i z e = go (ltb i (length s)) refl
  where
    go : (t : Bool) → ltb i (length s) ≡ t → i < length s
    go true q = ltb-true i (length s) q
    go false q = absurd (true≢false (sym e ∙ ap class (get_or-eq_default s 0 (ltb-false i (length s) q)) ∙ z))

pub within : (s : List ℕ) (i : ℕ) → 0 < get_or s i 0 → i < length s
within s i h = in_text (λ (b : ℕ). ltb 0 b) s i refl (lt-ltb 0 (get_or s i 0) h)

pub at_byte : (s : List ℕ) (i b : ℕ) → 0 < b → get_or s i 0 ≡ b → i < length s
at_byte s i b p e = within s i (omega arith)

pub ws-zero : is_ws 0 ≡ false
unfolding is_ws same
ws-zero = refl

pub digit_zero : is_digit 0 ≡ false
unfolding is_digit inside
digit_zero = refl

-- ---- spans

span_next : (class : ℕ → Bool) (s : List ℕ) (i : ℕ) → i < length s → class (get_or s i 0) ≡ true → span class s i ≡ span class s (i + 1)
unfolding span_in choose
span_next class s i h e = rw (drop-cons s i 0, e, add-one i)

pub span-on : (class : ℕ → Bool) (s : List ℕ) (i : ℕ) → class 0 ≡ false → class (get_or s i 0) ≡ true → span class s i ≡ span class s (i + 1)
span-on class s i z e = span_next class s i (in_text class s i z e) e

pub span_stop : (class : ℕ → Bool) (s : List ℕ) (i : ℕ) → class (get_or s i 0) ≡ false → span class s i ≡ i
unfolding span_in choose
span_stop class s i e = go (ltb i (length s)) refl
  where
    go : (t : Bool) → ltb i (length s) ≡ t → span class s i ≡ i
    go true q = let h : i < length s = ltb-true i (length s) q in rw (drop-cons s i 0, e)
    go false q = let h : length s ≤ i = ltb-false i (length s) q in rw (drop_of_length-le s h)

-- the one position r up to which all bytes are in the class, and where the text or the class ends
span_after : (class : ℕ → Bool) (s : List ℕ) (n i r : ℕ) → i + n ≡ r → (i < r → r ≤ length s)
    → ((k : ℕ) → i ≤ k → k < r → true ≡ class (get_or s k 0)) → (r < length s → false ≡ class (get_or s r 0)) → r ≡ span class s i
unfolding span_in
span_after class s zero i r e m p q = let z : r ≡ i = omega arith in z ∙ go (ltb i (length s)) refl z
  where
    go : (t : Bool) → ltb i (length s) ≡ t → r ≡ i → i ≡ span class s i
    go true h z = sym (span_stop class s i (ap (λ (j : ℕ). class (get_or s j 0)) (sym z) ∙ sym (q (omega (arith, z, ltb-true i (length s) h)))))
    go false h z = let l : length s ≤ i = ltb-false i (length s) h in rw (drop_of_length-le s l)
span_after class s (suc n) i r e m p q =
    let h : r ≤ length s = m (omega arith) in
    span_after class s n (i + 1) r (omega arith) (λ l. h) (λ k a b. p k (omega arith) b) q
    ∙ sym (span_next class s i (omega arith) (sym (p i (omega arith) (omega arith))))

pub span_found : (class : ℕ → Bool) (s : List ℕ) (i : ℕ) {r : ℕ} → (i ≤ r) × (r ≤ max i (length s))
    → ((k : ℕ) → i ≤ k → k < r → true ≡ class (get_or s k 0)) → (r < length s → false ≡ class (get_or s r 0)) → r ≡ span class s i
span_found class s i {r} b p q = span_after class s (r - i) i r (omega (arith, b.0)) (λ l. omega (arith, b.1)) p q

le-span_in : (class : ℕ → Bool) (t : List ℕ) (i : ℕ) → i ≤ span_in class t i
unfolding span_in choose
le-span_in class [] i = omega arith
le-span_in class (b ∷ t) i = go (class b) (le-span_in class t (i + 1))
  where
    go : (x : Bool) → i + 1 ≤ span_in class t (i + 1) → i ≤ choose x (span_in class t (i + 1)) i
    go true more = omega arith
    go false more = omega arith

pub le-span : (class : ℕ → Bool) (s : List ℕ) (i : ℕ) → i ≤ span class s i
le-span class s i = le-span_in class (drop i s) i

span-most : (class : ℕ → Bool) (t : List ℕ) (i : ℕ) → span_in class t i ≤ i + length t
unfolding span_in choose
span-most class [] i = omega arith
span-most class (b ∷ t) i = go (class b) (span-most class t (i + 1))
  where
    go : (x : Bool) → span_in class t (i + 1) ≤ i + 1 + length t → choose x (span_in class t (i + 1)) i ≤ i + suc (length t)
    go true h = omega arith
    go false h = omega arith

-- white space ends within the text
pub ws-most : (s : List ℕ) (i : ℕ) → i ≤ length s → ws s i ≤ length s
ws-most s i h = let p = span-most is_ws (drop i s) i in omega (arith, p, length-drop i s)
