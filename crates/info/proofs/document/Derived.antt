-- What is found by places is what the rules derive: the document of a text is that of its derivation.
use Prim.Native.Nat.{ℕ, zero, suc, ◌+◌, ◌-◌, ◌*◌, ◌≤◌, ◌<◌}
use mathlib.Core.Path.{◌≡◌, refl, ap, ◌∙◌}
use mathlib.Core.Bool.{Bool, true, false, ◌&&◌}
use mathlib.Core.List.{List, [], ◌∷◌, map}
use native.Mathlib.Omega.{arith}
use borrow.Author.Tests.{eq-eqb, ne_eqb, lt-leb}
use lib.Dec.{leb}
use lib.ListN.{length, drop, get_or-eq_default}
use Rattle.refusal.specs.Choice.{pick}
use Rattle.json_text.specs.tokens.Bytes.{byte_at, same, is_ws, is_digit, inside}
use Rattle.json_text.specs.tokens.Parts.{ws, digits}
use Rattle.json_text.specs.tokens.Numbers.{is_e, Digits, IntPart, FracPart, ExpPart, Numeral, decimal, int_value}
use Rattle.json_text.specs.Grammar.{deepest}
use Rattle.json_text.specs.Rfc.{Ws, Items, Listed, Member, ValueOf, Value, JsonText}
use Rattle.json_text.proofs.tokens.Laws.{is_same, digit_zero}
use Rattle.json_text.proofs.tokens.Numerals.{digits-end, digits-first, numeral_complete}
use Rattle.json_text.proofs.strings.Characters.{string-first}
use Rattle.json_text.proofs.strings.Encoded.{or_case}
use Rattle.json_text.proofs.strings.Unescaping.{text-own}
use Rattle.json_text.proofs.Agree.{word_first, number-first, opens-ws, value-opens, ws-max}
use Rattle.json_text.proofs.members.Own.{item_places, places, value_place, elements-own, members-own, value-own}
use Rattle.info.specs.numbers.Numbers.{decimal_on, decimal_at, goes_on_of, in32, digits_from_of, whole_from}
use Rattle.std.specs.Prelude.{None}
use Rattle.info.specs.document.Document.{Document, whole_by, numeral_says, items_say, list_says, member_says, value_says, document}
use Rattle.info.specs.document.Document.DocumentOf.{word, string, array, object}
use Rattle.info.proofs.numbers.Numbering.{decimal-on, decimal_stop}
use Rattle.info.specs.document.Places.{said_number_at, document_at, document_found}
use Rattle.info.proofs.document.Reading.{entry, at_quote, at_square, at_curly, at_plain, digit_no}

-- ---- bytes that are no digits

digit_above : (b : ℕ) → 0x39 < b → is_digit b ≡ false
unfolding is_digit inside
digit_above b h = rw (lt-leb b 0x39 h) (no_both (leb 0x30 b))
  where
    no_both : (x : Bool) → (x && false) ≡ false
    no_both true = refl
    no_both false = refl

ws_digit : (b : ℕ) → is_ws b ≡ true → is_digit b ≡ false
unfolding is_ws is_digit inside
ws_digit b e =
    or_case _ _ _ e (λ t. digit_no b 0x20 (is_same _ _ t) refl) (λ t.
    or_case _ _ _ t (λ u. digit_no b 0x09 (is_same _ _ u) refl) (λ t.
    or_case _ _ _ t (λ u. digit_no b 0x0A (is_same _ _ u) refl) (λ u. digit_no b 0x0D (is_same _ _ u) refl)))

-- behind white space too
ws_stop : (s : List ℕ) (j k : ℕ) → Ws s j k → is_digit (byte_at s k) ≡ false → is_digit (byte_at s j) ≡ false
ws_stop s j k Ws.done h = h
ws_stop s j k (Ws.one t r) h = ws_digit (byte_at s j) t

no-digits : (is_digit 0x5D ≡ false) × (is_digit 0x7D ≡ false) × (is_digit 0x2C ≡ false) × (is_digit 0x2E ≡ false) × (is_digit 0x30 ≡ true)
unfolding is_digit inside
no-digits = (refl, refl, refl, refl, refl)

-- ---- whole numbers

decimal-own : (s : List ℕ) (i e n : ℕ) (r : Digits s i e) → decimal_on n (drop i s) ≡ decimal n r
unfolding decimal
decimal-own s i e n (Digits.last h t) = decimal-on s i n h ∙ decimal_stop s (i + 1) (n * 10 + (byte_at s i - 0x30)) t
decimal-own s i e n (Digits.next h r) = decimal-on s i n h ∙ decimal-own s (i + 1) e (n * 10 + (byte_at s i - 0x30)) r

e_digit : (b : ℕ) → is_e b ≡ true → is_digit b ≡ false
unfolding is_e
e_digit b e = or_case _ _ _ e (λ t. digit_above b (omega (arith, is_same b 0x65 t))) (λ t. digit_above b (omega (arith, is_same b 0x45 t)))

goes_e : (b : ℕ) → (b ≡ 0x2E → ⊥) → goes_on_of b ≡ is_e b
unfolding goes_on_of is_e same
goes_e b n = rw (ne_eqb b 0x2E n)

goes_point : (b : ℕ) → b ≡ 0x2E → goes_on_of b ≡ true
unfolding goes_on_of
goes_point b e = rw (eq-eqb b 0x2E e)

module _ (s : List ℕ) where
  -- behind the whole part of a number that no digit follows stands no digit
  int_behind : (j k e : ℕ) → FracPart s j k → ExpPart s k e → is_digit (byte_at s e) ≡ false → is_digit (byte_at s j) ≡ false
  int_behind j k e (FracPart.none a) (ExpPart.none b) h = h
  int_behind j k e (FracPart.none a) (ExpPart.exp b r) h = e_digit (byte_at s j) b
  int_behind j k e (FracPart.frac a r) x h = digit_no (byte_at s j) 0x2E a no-digits.3

  int_first : (i j : ℕ) → IntPart s i j → is_digit (byte_at s i) ≡ true
  int_first i j (IntPart.is_zero a) = ap is_digit a ∙ no-digits.4
  int_first i j (IntPart.is-digits a r) = digits-first s i j r

  int_digits : (i j : ℕ) → IntPart s i j → is_digit (byte_at s j) ≡ false → digits s i ≡ j
  int_digits i j (IntPart.is_zero a) h = digits-end s i (i + 1) (Digits.last (ap is_digit a ∙ no-digits.4) h)
  int_digits i j (IntPart.is-digits a r) h = digits-end s i j r

  int_decimal : (i j : ℕ) (n : IntPart s i j) → is_digit (byte_at s j) ≡ false → decimal_at s i ≡ int_value n
  unfolding decimal_at int_value decimal
  int_decimal i j (IntPart.is_zero a) h = decimal-own s i (i + 1) 0 (Digits.last (ap is_digit a ∙ no-digits.4) h) ∙ omega (arith, a)
  int_decimal i j (IntPart.is-digits a r) h = decimal-own s i j 0 r

  whole-form : (i j : ℕ) → is_digit (byte_at s i) ≡ true → digits s i ≡ j → whole_from s i ≡ pick (goes_on_of (byte_at s j)) None (in32 (decimal_at s i))
  unfolding whole_from digits_from_of
  whole-form i j h e = rw (h, e)

  whole_by_lem : (j k e n : ℕ) (f : FracPart s j k) (x : ExpPart s k e) → pick (goes_on_of (byte_at s j)) None (in32 n) ≡ whole_by f x n
  unfolding whole_by
  whole_by_lem j k e n (FracPart.none a) (ExpPart.none b) = rw (goes_e (byte_at s j) a ∙ b)
  whole_by_lem j k e n (FracPart.none a) (ExpPart.exp b r) = rw (goes_e (byte_at s j) a ∙ b)
  whole_by_lem j k e n (FracPart.frac a r) x = rw (goes_point (byte_at s j) a)

  whole-own : (i j k e : ℕ) (n : IntPart s i j) (f : FracPart s j k) (x : ExpPart s k e) → is_digit (byte_at s e) ≡ false → whole_from s i ≡ whole_by f x (int_value n)
  whole-own i j k e n f x h =
      let g = int_behind j k e f x h in
      whole-form i j (int_first i j n) (int_digits i j n g) ∙ whole_by_lem j k e (decimal_at s i) f x ∙ ap (whole_by f x) (int_decimal i j n g)

  numeral_own : (D : Type 0) (i e : ℕ) (t : Numeral s i e) → is_digit (byte_at s e) ≡ false → said_number_at {D = D} s i ≡ numeral_says t
  unfolding said_number_at numeral_says
  numeral_own D i e (Numeral.plain {j = j} {k = k} a n f x) h = rw (ne_eqb (byte_at s i) 0x2D a, int_first i j n, whole-own i j k e n f x h)
  numeral_own D i e (Numeral.minus {j = j} {k = k} a n f x) h = rw (eq-eqb (byte_at s i) 0x2D a, whole-own (i + 1) j k e n f x h)

  -- true, null and false
  word-own : (d i : ℕ) → 0x5B < byte_at s i → byte_at s i < 0x7B → document_at (suc d) s i ≡ word
  unfolding said_number_at
  word-own d i h k =
      at_plain d s i (λ q. omega (arith, q)) (λ q. omega (arith, q)) (λ q. omega (arith, q))
      ∙ rw (ne_eqb (byte_at s i) 0x2D (λ q. omega (arith, q)), digit_above (byte_at s i) (omega arith))

-- ---- lists

module _ {A : Type 0} (s : List ℕ) (Item : ℕ → ℕ → Type 0) (close : ℕ) (cl : is_digit close ≡ false) (f : ℕ → A) (g : (i e : ℕ) → Item i e → A)
    (said : (i e : ℕ) (v : Item i e) → is_digit (byte_at s e) ≡ false → f i ≡ g i e v) where
  items_said : (i e : ℕ) (r : Items s Item close i e) → map f (item_places r) ≡ items_say g r
  unfolding item_places items_say
  items_said i e (Items.last {j = j} {k = k} v w b) = ap (λ (x : A). x ∷ []) (said i j v (ws_stop s j k w (digit_no (byte_at s k) close b cl)))
  items_said i e (Items.next {j = j} {k = k} {m = m} v w b x r) =
      let p = said i j v (ws_stop s j k w (digit_no (byte_at s k) 0x2C b no-digits.2)) in
      let q = items_said m e r in
      λ t. p t ∷ q t

  listed-said : (i e : ℕ) (r : Listed s Item close i e) → map f (places r) ≡ list_says g r
  unfolding places list_says
  listed-said i e (Listed.empty w b) = refl
  listed-said i e (Listed.some {k = k} w r) = items_said k e r

-- ---- values

member-said : (d : ℕ) (s : List ℕ) → ((i e : ℕ) (v : Value s d i e) → is_digit (byte_at s e) ≡ false → document_at d s i ≡ value_says d s i e v)
    → (i e : ℕ) (v : Member s (Value s d) i e) → is_digit (byte_at s e) ≡ false → entry d s i ≡ member_says (value_says d s) i e v
unfolding entry member_says value_place
member-said d s said i e (Member.member {j = j} {m = m} t w b x v) h =
    let p = text-own s i j t in
    let q = ap (document_at d s) (value-own d s i e (Member.member t w b x v)) ∙ said m e v h in
    λ r. record { name = p r; value = q r }

value-said : (d : ℕ) (s : List ℕ) → d ≤ deepest → (i e : ℕ) (v : Value s d i e) → is_digit (byte_at s e) ≡ false → document_at d s i ≡ value_says d s i e v
unfolding value_says
value-said zero s l i e v h = absurd v
value-said (suc d) s l i e (ValueOf.is_true t) h = let b = word_first s i 0x74 0x72 0x75 0x65 e t in word-own s d i (omega arith) (omega arith)
value-said (suc d) s l i e (ValueOf.is_null t) h = let b = word_first s i 0x6E 0x75 0x6C 0x6C e t in word-own s d i (omega arith) (omega arith)
value-said (suc d) s l i e (ValueOf.is_false b t) h = word-own s d i (omega arith) (omega arith)
value-said (suc d) s l i e (ValueOf.is_number t) h =
    let b = number-first s i e (numeral_complete s i e t) in
    at_plain d s i (λ q. omega (arith, q)) (λ q. omega (arith, q)) (λ q. omega (arith, q)) ∙ numeral_own s (Document d) i e t h
value-said (suc d) s l i e (ValueOf.is-string t) h = at_quote d s i (string-first s i e t) ∙ ap string (text-own s i e t)
value-said (suc d) s l i e (ValueOf.array b r) h =
    at_square d s i b
    ∙ ap array (ap (map (document_at d s)) (elements-own d s i e (omega arith) b r)
    ∙ listed-said s (Value s d) 0x5D no-digits.0 (document_at d s) (value_says d s) (value-said d s (omega arith)) (i + 1) e r)
value-said (suc d) s l i e (ValueOf.object b r) h =
    at_curly d s i b
    ∙ ap object (ap (map (entry d s)) (members-own d s i e (omega arith) b r)
    ∙ listed-said s (Member s (Value s d)) 0x7D no-digits.1 (entry d s) (member_says (value_says d s)) (member-said d s (value-said d s (omega arith))) (i + 1) e r)

-- ---- the whole text

-- what is found in a JSON text is what it says
pub document-said : (s : List ℕ) (j : JsonText deepest s) → document_found s ≡ document j
unfolding document document_found
document-said s (JsonText.text i e w v x) =
    let z : ws s 0 ≡ i = ws-max s 0 i (opens-ws _ (value-opens deepest s i e v)) w in
    let h : is_digit (byte_at s e) ≡ false = ws_stop s e (length s) x (ap is_digit (get_or-eq_default s 0 (omega arith)) ∙ digit_zero) in
    ap (document_at deepest s) z ∙ value-said deepest s (omega arith) i e v h
