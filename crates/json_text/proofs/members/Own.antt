-- The elements and members that are found by walking are the grammar's own: the items of the derivation that the rules of RFC 8259 give.
use Prim.Native.Nat.{ℕ, ◌+◌, ◌≤◌, ◌<◌}
use mathlib.Core.Path.{◌≡◌, refl, sym, ap, ◌∙◌}
use mathlib.Core.Bool.{true}
use mathlib.Core.List.{List, [], ◌∷◌}
use native.Mathlib.Omega.{arith}
use lib.ListN.{length, get_or}
use Rattle.json_text.specs.tokens.Bytes.{byte_at}
use Rattle.json_text.specs.tokens.Parts.{ws, mark_at}
use Rattle.std.specs.Prelude.{Option, Some, None}
use Rattle.json_text.proofs.tokens.Laws.{then_at}
use Rattle.json_text.proofs.strings.Characters.{string_complete}
use Rattle.json_text.specs.Grammar.{deepest, end_of}
use Rattle.json_text.specs.Rfc.{Items, Listed, Member, Value}
use Rattle.json_text.proofs.Agree.{opens, opens-ws, opens_not, no-ws, ws-max, Closes, square, curly, value-opens, member-opens, mark_complete, mark_other, comma_solid, colon_solid, value_complete, member-found}
use Rattle.json_text.proofs.Deeper.{value_deeper, member-map}
use Rattle.json_text.specs.members.Places.{next_element, next_member, value_of, first_in, items_by, items_from, elements, members}
use Rattle.json_text.proofs.members.Items.{Onward, element_onward, member_onward, first_onward, first-empty, first_some, items_cons, items_last}

-- where the items of a list begin

unfoldable pub item_places : {s : List ℕ} {Item : ℕ → ℕ → Type 0} {close i e : ℕ} → Items s Item close i e → List ℕ
item_places (Items.last {i = i} v w b) = i ∷ []
item_places (Items.next {i = i} v w b x r) = i ∷ item_places r

unfoldable pub places : {s : List ℕ} {Item : ℕ → ℕ → Type 0} {close i e : ℕ} → Listed s Item close i e → List ℕ
places (Listed.empty w b) = []
places (Listed.some w r) = item_places r

-- where a member's value begins
unfoldable pub value_place : {s : List ℕ} {Inner : ℕ → ℕ → Type 0} {i e : ℕ} → Member s Inner i e → ℕ
value_place (Member.member {m = m} t w b x v) = m

none_from : (next : ℕ → Option ℕ) (s : List ℕ) → items_from next s None ≡ []
unfolding items_by
none_from next s = refl

module _ (s : List ℕ) (Item : ℕ → ℕ → Type 0) (opening close : ℕ) (cl : Closes close) (next : ℕ → Option ℕ) (on : (i : ℕ) → Onward (length s) i (next i))
    (first : (i e : ℕ) → Item i e → opens (byte_at s i) ≡ true) (step : (i j : ℕ) → Item i j → next i ≡ mark_at 0x2C s j) where
  items_open : (i e : ℕ) → Items s Item close i e → opens (byte_at s i) ≡ true
  items_open i e (Items.last {j = j} v w b) = first i j v
  items_open i e (Items.next {j = j} v w b x r) = first i j v

  items_own : (i e : ℕ) → i ≤ length s → (r : Items s Item close i e) → items_from next s (Some i) ≡ item_places r
  unfolding item_places
  items_own i e h (Items.last {j = j} {k = k} v w b) = items_last next s on h (step i j v ∙ mark_other 0x2C s j k close cl.solid cl.apart w b)
  items_own i e h (Items.next {j = j} {k = k} {m = m} v w b x r) =
      let n : next i ≡ Some m = step i j v ∙ mark_complete 0x2C s j k m comma_solid w b x (items_open m e r) in
      let o : Onward (length s) i (Some m) = rw n at (on i) in
      items_cons next s on i h ∙ ap (λ (l : List ℕ). i ∷ l) (ap (items_from next s) n ∙ items_own m e o.1 r)

  listed-own : (p e : ℕ) → 0 < opening → byte_at s p ≡ opening → (r : Listed s Item close (p + 1) e) → items_from next s (first_in opening close s p) ≡ places r
  unfolding places
  listed-own p e h q (Listed.empty {k = k} w b) =
      let z : ws s (p + 1) ≡ k = ws-max s (p + 1) k (no-ws _ _ b cl.solid) w in
      let g : first_in opening close s p ≡ None = sym (first-empty opening close s p refl q (sym z) refl b) in
      ap (items_from next s) g ∙ none_from next s
  listed-own p e h q (Listed.some {k = k} w r) =
      let a = items_open k e r in
      let z : ws s (p + 1) ≡ k = ws-max s (p + 1) k (opens-ws _ a) w in
      let g : first_in opening close s p ≡ Some k = sym (first_some opening close s p refl q (sym z) refl (opens_not (get_or s k 0) close cl.shut a)) in
      let o : Onward (length s) p (Some k) = rw g at (first_onward opening close s p h) in
      ap (items_from next s) g ∙ items_own k e o.1 r

-- the elements of an array
pub elements-own : (d : ℕ) (s : List ℕ) (p e : ℕ) → d ≤ deepest → byte_at s p ≡ 0x5B → (r : Listed s (Value s d) 0x5D (p + 1) e) → elements s p ≡ places r
unfolding elements
elements-own d s p e h q r =
    listed-own s (Value s d) 0x5B 0x5D square (next_element s) (element_onward s) (value-opens d s)
    (λ i j v. unfold next_element in then_at _ _ j (value_complete deepest s i j (value_deeper d deepest s h i j v))) p e (omega arith) q r

-- the members of an object
pub members-own : (d : ℕ) (s : List ℕ) (p e : ℕ) → d ≤ deepest → byte_at s p ≡ 0x7B → (r : Listed s (Member s (Value s d)) 0x7D (p + 1) e) → members s p ≡ places r
unfolding members
members-own d s p e h q r =
    listed-own s (Member s (Value s d)) 0x7B 0x7D curly (next_member s) (member_onward s) (member-opens s (Value s d))
    (λ i j v. unfold next_member in then_at _ _ j (member-found deepest s i j (member-map s (Value s d) (Value s deepest) (value_deeper d deepest s h) i j v))) p e (omega arith) q r

pub value-own : (d : ℕ) (s : List ℕ) (i e : ℕ) (r : Member s (Value s d) i e) → value_of s i ≡ value_place r
unfolding value_of end_of value_place
value-own d s i e (Member.member {j = j} {k = k} {m = m} t w b x v) =
    ap end_of (then_at _ _ j (string_complete s i j t) ∙ mark_complete 0x3A s j k m colon_solid w b x (value-opens d s m e v))
