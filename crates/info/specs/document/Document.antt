-- What a JSON text says, apart from how it is written: no white space, escapes undone, and a number as far as the settings use it.
use Rattle.std.specs.Prelude.{ℕ, zero, suc, Bool, true, false, List, [], ◌∷◌, Option, None}
use Rattle.refusal.specs.Choice.{pick}
use Rattle.json_text.specs.tokens.Numbers.{FracPart, ExpPart, Numeral, int_value}
use Rattle.json_text.specs.strings.Names.{eq_list}
use Rattle.json_text.specs.strings.Unescaped.{string_text}
use Rattle.json_text.specs.Grammar.{deepest}
use Rattle.json_text.specs.Rfc.{Items, Listed, Member, ValueOf, Value, JsonText}
use Rattle.info.specs.numbers.Numbers.{in32}

-- a member
pub record Entry (D : Type 0) : Type 0 where
  pub name : List ℕ
  pub value : D

-- a value, where D is what a value inside it is: true, false or null; a number, by its minus and its digits, or as none that settings can use: with a fraction, an exponent, or past 32 bits; a string's text; elements; members
pub data DocumentOf (D : Type 0) : Type 0 where
  word : DocumentOf D
  number : Bool → Option ℕ → DocumentOf D
  string : List ℕ → DocumentOf D
  array : List D → DocumentOf D
  object : List (Entry D) → DocumentOf D

abbrev pub Document : ℕ → Type 0
Document zero = Unit {0}
Document (suc d) = DocumentOf (Document d)

-- ---- what a text says, by the rules of RFC 8259 that derive it

-- a number written without fraction and exponent (RULES I6)
unfoldable pub whole_by : {s : List ℕ} {j k e : ℕ} → FracPart s j k → ExpPart s k e → ℕ → Option ℕ
whole_by (FracPart.none a) (ExpPart.none b) n = in32 n
whole_by (FracPart.none a) (ExpPart.exp b r) n = None
whole_by (FracPart.frac a r) x n = None

unfoldable pub numeral_says : {D : Type 0} {s : List ℕ} {i e : ℕ} → Numeral s i e → DocumentOf D
numeral_says (Numeral.plain a n f x) = number false (whole_by f x (int_value n))
numeral_says (Numeral.minus a n f x) = number true (whole_by f x (int_value n))

-- the items of a list, where f is what an item says
unfoldable pub items_say : {A : Type 0} {s : List ℕ} {Item : ℕ → ℕ → Type 0} {close i e : ℕ} → ((i e : ℕ) → Item i e → A) → Items s Item close i e → List A
items_say f (Items.last {i = i} {j = j} v w b) = f i j v ∷ []
items_say f (Items.next {i = i} {j = j} v w b x r) = f i j v ∷ items_say f r

unfoldable pub list_says : {A : Type 0} {s : List ℕ} {Item : ℕ → ℕ → Type 0} {close i e : ℕ} → ((i e : ℕ) → Item i e → A) → Listed s Item close i e → List A
list_says f (Listed.empty w b) = []
list_says f (Listed.some w r) = items_say f r

unfoldable pub member_says : {D : Type 0} {s : List ℕ} {Inner : ℕ → ℕ → Type 0} → ((i e : ℕ) → Inner i e → D) → (i e : ℕ) → Member s Inner i e → Entry D
member_says f i e (Member.member {m = m} t w b x v) = record { name = string_text t; value = f m e v }

unfoldable pub value_says : (d : ℕ) (s : List ℕ) (i e : ℕ) → Value s d i e → Document d
value_says zero s i e v = tt
value_says (suc d) s i e (ValueOf.is_true t) = word
value_says (suc d) s i e (ValueOf.is_null t) = word
value_says (suc d) s i e (ValueOf.is_false b t) = word
value_says (suc d) s i e (ValueOf.is_number t) = numeral_says t
value_says (suc d) s i e (ValueOf.is-string t) = string (string_text t)
value_says (suc d) s i e (ValueOf.array b r) = array (list_says (value_says d s) r)
value_says (suc d) s i e (ValueOf.object b r) = object (list_says (member_says (value_says d s)) r)

-- what the whole text says: nothing of white space
unfoldable pub document : {s : List ℕ} → JsonText deepest s → Document deepest
document {s = s} (JsonText.text i e w v x) = value_says deepest s i e v

-- ---- asking a document

-- how often something is there
pub data Times (D : Type 0) : Type 0 where
  never : Times D
  once : D → Times D
  twice : Times D

-- RULES I5
unfoldable pub times : {D : Type 0} → List D → Times D
times [] = never
times (x ∷ []) = once x
times (x ∷ y ∷ l) = twice

unfoldable pub values_named : {D : Type 0} → List ℕ → List (Entry D) → List D
values_named name [] = []
values_named name (e ∷ l) = pick (eq_list e.name name) (e.value ∷ values_named name l) (values_named name l)

-- the member with this name (RULES I4)
unfoldable pub member_of : {D : Type 0} → List ℕ → DocumentOf D → Times D
member_of name word = never
member_of name (number m n) = never
member_of name (string t) = never
member_of name (array l) = never
member_of name (object l) = times (values_named name l)

unfoldable pub elements_of : {D : Type 0} → DocumentOf D → List D
elements_of word = []
elements_of (number m n) = []
elements_of (string t) = []
elements_of (array l) = l
elements_of (object l) = []

unfoldable pub says_text : {D : Type 0} → List ℕ → DocumentOf D → Bool
says_text words word = false
says_text words (number m n) = false
says_text words (string t) = eq_list t words
says_text words (array l) = false
says_text words (object l) = false

-- what follows where something is there once, else `none`
abbrev pub when_once : {A D : Type 0} → Times D → A → (D → A) → A
when_once never none f = none
when_once (once v) none f = f v
when_once twice none f = none

-- what follows of three
abbrev pub when_triple : {A D : Type 0} → List D → A → (D → D → D → A) → A
when_triple [] none f = none
when_triple (a ∷ []) none f = none
when_triple (a ∷ b ∷ []) none f = none
when_triple (a ∷ b ∷ c ∷ []) none f = f a b c
when_triple (a ∷ b ∷ c ∷ d ∷ l) none f = none

-- the k-th of a list, from 0
unfoldable pub nth : {D : Type 0} → ℕ → List D → Times D
nth k [] = never
nth zero (x ∷ l) = once x
nth (suc k) (x ∷ l) = nth k l
