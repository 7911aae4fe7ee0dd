-- Places in a JSON text: the elements of an array, the members of an object, and the one member with a name.
-- A place is the position of a value's first byte; a member's place is that of its name's quotation mark.
use Rattle.std.specs.Prelude.{ℕ, zero, suc, ◌+◌, ◌≡◌, Bool, true, ◌&&◌, List, [], ◌∷◌, eqb, length, Option, Some, None, Result, Ok, Err}
use Rattle.refusal.specs.Choice.{pick}
use Rattle.json_text.specs.tokens.Bytes.{byte_at}
use Rattle.json_text.specs.tokens.Parts.{and_then, ws, mark_at}
use Rattle.json_text.specs.strings.Chars.{string_at}
use Rattle.json_text.specs.strings.Names.{text_at, eq_list, ascii}
use Rattle.json_text.specs.Grammar.{deepest, end_of, member_at, value_at}
use Rattle.json_text.specs.declared.members.NotOnce.TheVariants.{Never, Twice}
use Rattle.json_text.specs.declared.members.NotOnce.{NotOnce}
use Rattle.json_text.specs.declared.members.Three.{Three}
use Rattle.json_text.specs.declared.members.Four.{Four}

-- the value of the member with a name: where it is if the object has that member once
abbrev pub Given : Type 0
Given = Result ℕ NotOnce

-- the element behind the one at i: behind its value and a comma
unfoldable pub next_element : List ℕ → ℕ → Option ℕ
next_element s i = and_then (value_at deepest s i) (mark_at 0x2C s)

-- the member behind the one at m: behind its name, a colon, its value and a comma
unfoldable pub next_member : List ℕ → ℕ → Option ℕ
next_member s m = and_then (member_at (value_at deepest s) s m) (mark_at 0x2C s)

-- the value of the member at m: behind its name and a colon. Where none stands, which is in no JSON text, the start
unfoldable pub value_of : List ℕ → ℕ → ℕ
value_of s m = end_of (and_then (string_at s m) (mark_at 0x3A s))

-- the first item of the array or object at p, between these brackets
unfoldable pub first_in : ℕ → ℕ → List ℕ → ℕ → Option ℕ
first_in opening closing s p =
    pick (eqb (byte_at s p) opening) (pick (eqb (byte_at s (ws s (p + 1))) closing) None (Some (ws s (p + 1)))) None

abbrev pub first_element : List ℕ → ℕ → Option ℕ
first_element s p = first_in 0x5B 0x5D s p

abbrev pub first_member : List ℕ → ℕ → Option ℕ
first_member s p = first_in 0x7B 0x7D s p

-- one item after the other, at most n
unfoldable pub items_by : (ℕ → Option ℕ) → ℕ → Option ℕ → List ℕ
items_by next zero q = []
items_by next (suc n) (Some i) = i ∷ items_by next n (next i)
items_by next (suc n) None = []

-- a text has no more items than places
abbrev pub items_from : (ℕ → Option ℕ) → List ℕ → Option ℕ → List ℕ
items_from next s q = items_by next (suc (length s)) q

abbrev pub elements_from : List ℕ → Option ℕ → List ℕ
elements_from s q = items_from (next_element s) s q

-- the elements of the array at p, none where no array stands
unfoldable pub elements : List ℕ → ℕ → List ℕ
elements s p = elements_from s (first_element s p)

-- the members of the object at p, none where no object stands
unfoldable pub members : List ℕ → ℕ → List ℕ
members s p = items_from (next_member s) s (first_member s p)

-- "strings compare unescaped": at p stands a string with this text
unfoldable pub is_text : List ℕ → List ℕ → ℕ → Bool
is_text words s p = eqb (byte_at s p) 0x22 && eq_list (text_at s p) words

unfoldable pub keep : (ℕ → Bool) → List ℕ → List ℕ
keep test [] = []
keep test (x ∷ l) = pick (test x) (x ∷ keep test l) (keep test l)

-- the member at m has this name
unfoldable pub is_name : List ℕ → List ℕ → ℕ → Bool
is_name name s m = eq_list (text_at s m) name

-- the members of the object at p that have this name
unfoldable pub named : List ℕ → List ℕ → ℕ → List ℕ
named name s p = keep (is_name name s) (members s p)

-- the value of the one member of a list
unfoldable pub only : List ℕ → List ℕ → Given
only s [] = Err Never
only s (m ∷ []) = Ok (value_of s m)
only s (m ∷ n ∷ l) = Err Twice

-- "a used member given twice is refused": the value of the member with this name
unfoldable pub member : List ℕ → List ℕ → ℕ → Given
member name s p = only s (named name s p)

-- the value of a member that is needed: there, and once
unfoldable pub once_of : Given → Option ℕ
once_of (Ok v) = Some v
once_of (Err Never) = None
once_of (Err Twice) = None

unfoldable pub needed : List ℕ → List ℕ → ℕ → Option ℕ
needed name s p = once_of (member name s p)

-- the k-th of a list, from 0
unfoldable pub pick_nth : ℕ → List ℕ → Option ℕ
pick_nth k [] = None
pick_nth zero (x ∷ l) = Some x
pick_nth (suc k) (x ∷ l) = pick_nth k l

-- the k-th element of the array at p
unfoldable pub element : ℕ → List ℕ → ℕ → Option ℕ
element k s p = pick_nth k (elements s p)

-- the elements of an array that has just three, and the one of an array that has "just one"
unfoldable pub three_of : List ℕ → Option Three
three_of [] = None
three_of (a ∷ []) = None
three_of (a ∷ b ∷ []) = None
three_of (a ∷ b ∷ c ∷ []) = Some (record { x = a; y = b; z = c })
three_of (a ∷ b ∷ c ∷ d ∷ l) = None

unfoldable pub lone_of : List ℕ → Option ℕ
lone_of [] = None
lone_of (a ∷ []) = Some a
lone_of (a ∷ b ∷ l) = None

-- ---- what one walk tells of four names

-- the members from q on that have this name
unfoldable pub named_from : List ℕ → List ℕ → Option ℕ → List ℕ
named_from name s q = keep (is_name name s) (items_from (next_member s) s q)

-- one more member with a name, whose value is at v
unfoldable pub more : Given → ℕ → Given
more (Err Never) v = Ok v
more (Ok w) v = Err Twice
more (Err Twice) v = Err Twice

-- what is known of a name, with the member at m
unfoldable pub noted : List ℕ → List ℕ → Given → ℕ → Given
noted name s g m = pick (is_name name s m) (more g (value_of s m)) g

pub record AllAscii (a b c d : List ℕ) : Type 0 where
  pub first : ascii a ≡ true
  pub second : ascii b ≡ true
  pub third : ascii c ≡ true
  pub fourth : ascii d ≡ true

module _ (a b c d s : List ℕ) where
  abbrev pub four_from : Option ℕ → Four
  four_from q = record { a = only s (named_from a s q); b = only s (named_from b s q); c = only s (named_from c s q); d = only s (named_from d s q) }

  abbrev pub four_of : ℕ → Four
  four_of p = record { a = member a s p; b = member b s p; c = member c s p; d = member d s p }
