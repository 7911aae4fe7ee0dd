-- Laws of places: items go onward and end within the text, so a list of them unfolds item by item.
use Prim.Native.Nat.{ℕ, zero, suc, ◌+◌, ◌-◌, ◌≤◌, ◌<◌}
use mathlib.Core.Path.{◌≡◌, refl, sym, ap, ◌∙◌}
use mathlib.Core.Bool.{Bool, true, false}
use mathlib.Core.List.{List, [], ◌∷◌}
use native.Mathlib.Omega.{arith}
use native.Mathlib.Numerals.{sub-one}
use borrow.Author.Tests.{eqb-true, eq-eqb, ne_eqb}
use lib.Dec.{eqb}
use lib.ListN.{length, get_or}
use Rattle.refusal.specs.Choice.{pick}
use Rattle.json_text.specs.tokens.Bytes.{is_ws}
use Rattle.json_text.specs.tokens.Parts.{and_then, ws, mark_at}
use Rattle.std.specs.Prelude.{Option, Some, None, Err}
use Rattle.json_text.proofs.tokens.Laws.{within, le-span, ws-most, then_at, then_nothing, then-case}
use Rattle.json_text.specs.strings.Chars.{string_at}
use Rattle.json_text.specs.Grammar.{deepest, end_of, member_at, value_at}
use Rattle.json_text.proofs.Ahead.{Ahead, value_ahead, member_ahead, mark_ahead}
use Rattle.json_text.proofs.Turns.{mark_most}
use Rattle.json_text.proofs.Steps.{no_end, some_end}
use Rattle.json_text.specs.members.Places.{Given, next_element, value_of, next_member, first_in, items_by, items_from, elements_from, elements, members, keep, is_name, named, only, member, pick_nth, element, three_of, lone_of, named_from, more, noted, four_from, four_of}
use Rattle.json_text.specs.declared.members.NotOnce.TheVariants.{Never, Twice}
use Rattle.json_text.specs.declared.members.Four.{Four}

-- ---- what stands behind a part and a mark lies onward, within the text

-- if r is `Some j`, j lies behind i and within n
abbrev pub Onward : ℕ → ℕ → Option ℕ → Type 0
Onward n i (Some j) = (i < j) × (j ≤ n)
Onward n i None = Unit {0}

mark_onward : (mark : ℕ) (s : List ℕ) (i e : ℕ) (r : Option ℕ) → 0 < mark → i + 1 ≤ e → mark_at mark s e ≡ r → Onward (length s) i r
mark_onward mark s i e (Some j) p h q = (omega (arith, mark_ahead mark s e j q), mark_most mark s e j p q)
mark_onward mark s i e None p h q = tt

behind_onward : (mark : ℕ) (s : List ℕ) (i : ℕ) (r : Option ℕ) → 0 < mark → Ahead (i + 1) r → Onward (length s) i (and_then r (mark_at mark s))
unfolding and_then
behind_onward mark s i (Some e) p a = mark_onward mark s i e (mark_at mark s e) p (a e refl) refl
behind_onward mark s i None p a = tt

pub element_onward : (s : List ℕ) (i : ℕ) → Onward (length s) i (next_element s i)
unfolding next_element
element_onward s i = behind_onward 0x2C s i (value_at deepest s i) (omega arith) (value_ahead deepest s i)

pub member_onward : (s : List ℕ) (m : ℕ) → Onward (length s) m (next_member s m)
unfolding next_member
member_onward s m = behind_onward 0x2C s m (member_at (value_at deepest s) s m) (omega arith) (member_ahead (value_at deepest s) s (value_ahead deepest s) m)

first_picked : (opening closing : ℕ) (s : List ℕ) (p : ℕ) (b c : Bool) → 0 < opening → eqb (get_or s p 0) opening ≡ b
    → Onward (length s) p (pick b (pick c None (Some (ws s (p + 1)))) None)
first_picked opening closing s p true true h t = tt
first_picked opening closing s p true false h t =
    let w : p < length s = within s p (omega (arith, eqb-true (get_or s p 0) opening t)) in
    (omega (arith, le-span is_ws s (p + 1)), ws-most s (p + 1) (omega arith))
first_picked opening closing s p false c h t = tt

pub first_onward : (opening closing : ℕ) (s : List ℕ) (p : ℕ) → 0 < opening → Onward (length s) p (first_in opening closing s p)
unfolding first_in
first_onward opening closing s p h =
    first_picked opening closing s p (eqb (get_or s p 0) opening) (eqb (get_or s (ws s (p + 1)) 0) closing) h refl

-- ---- a list of items unfolds item by item, whatever room it was given

module _ (next : ℕ → Option ℕ) (s : List ℕ) (on : (i : ℕ) → Onward (length s) i (next i)) where
  room_by : (n m : ℕ) (q : Option ℕ) → ((i : ℕ) → q ≡ Some i → (length s < n + i) × (length s < m + i) × (i ≤ length s)) → items_by next n q ≡ items_by next m q
  unfolding items_by
  room_by zero zero q h = refl
  room_by zero (suc m) (Some i) h = let z = h i refl in absurd (omega (arith, z.0, z.2))
  room_by zero (suc m) None h = refl
  room_by (suc n) zero (Some i) h = let z = h i refl in absurd (omega (arith, z.1, z.2))
  room_by (suc n) zero None h = refl
  room_by (suc n) (suc m) (Some i) h =
      let z = h i refl in
      ap (λ (l : List ℕ). i ∷ l) (room_by n m (next i) (λ j e. let o : Onward (length s) i (Some j) = rw e at (on i) in (omega (arith, z.0, o.0), omega (arith, z.1, o.0), o.1)))
  room_by (suc n) (suc m) None h = refl

  pub items_cons : (i : ℕ) → i ≤ length s → items_from next s (Some i) ≡ i ∷ items_from next s (next i)
  unfolding items_by
  items_cons i h =
      ap (λ (l : List ℕ). i ∷ l)
      (room_by (length s) (suc (length s)) (next i) (λ j e. let o : Onward (length s) i (Some j) = rw e at (on i) in (omega (arith, o.0), omega (arith, o.0), o.1)))

  pub items_last : {i : ℕ} → i ≤ length s → next i ≡ None → items_from next s (Some i) ≡ i ∷ []
  items_last {i} h e = items_cons i h ∙ (unfold items_by in rw e)

-- ---- what the steps need: b, j, k and r are what calls gave

module _ (s : List ℕ) (i : ℕ) where
  module _ {e : ℕ} (ee : e ≡ end_of (value_at deepest s i)) where
    pub element-none : e ≡ 0 → None ≡ next_element s i
    unfolding next_element
    element-none z = sym (then_nothing _ _ (no_end i _ (value_ahead deepest s i) ee z))

    pub element-next : {q : Option ℕ} → (e ≡ 0 → ⊥) → q ≡ mark_at 44 s e → q ≡ next_element s i
    unfolding next_element
    element-next z eq = eq ∙ sym (then_at _ _ e (some_end _ ee z))

-- the member behind another stands where the element behind its value would
then-then : (p : Option ℕ) (f g : ℕ → Option ℕ) → and_then p (λ e. and_then (f e) g) ≡ and_then (and_then p f) g
unfolding and_then
then-then (Some e) f g = refl
then-then None f g = refl

module _ (s : List ℕ) (m : ℕ) {v : ℕ} (ev : v ≡ value_of s m) where
  by_value : next_member s m ≡ and_then (and_then (string_at s m) (mark_at 0x3A s)) (next_element s)
  unfolding next_member member_at next_element
  by_value =
      ap (λ (r : Option ℕ). and_then r (mark_at 0x2C s)) (then-then (string_at s m) (mark_at 0x3A s) (value_at deepest s))
      ∙ sym (then-then (and_then (string_at s m) (mark_at 0x3A s)) (value_at deepest s) (mark_at 0x2C s))

  past-start : (e : ℕ) → and_then (string_at s m) (mark_at 0x3A s) ≡ Some e → 0 + 1 ≤ e
  past-start e q = then-case (0 + 1 ≤ e) (string_at s m) (mark_at 0x3A s) e q (λ n g h. omega (arith, mark_ahead 0x3A s n e h))

  by_end : v ≡ end_of (and_then (string_at s m) (mark_at 0x3A s))
  unfolding value_of
  by_end = ev

  pub member-none : v ≡ 0 → None ≡ next_member s m
  member-none z = sym (by_value ∙ then_nothing _ _ (no_end 0 _ past-start by_end z))

  pub member-next : {q : Option ℕ} → (v ≡ 0 → ⊥) → q ≡ next_element s v → q ≡ next_member s m
  member-next z eq = eq ∙ sym (by_value ∙ then_at _ _ v (some_end _ by_end z))

module _ (opening closing : ℕ) (s : List ℕ) (p : ℕ) {a : ℕ} (ea : a ≡ get_or s p 0) where
  module _ (t : a ≡ opening) {i b : ℕ} (ei : i ≡ ws s (p + 1)) (eb : b ≡ get_or s i 0) where
    pub first-empty : b ≡ closing → None ≡ first_in opening closing s p
    unfolding first_in
    first-empty u = rw (← ea, eq-eqb a opening t, ← ei, ← eb, eq-eqb b closing u)

    pub first_some : (b ≡ closing → ⊥) → Some i ≡ first_in opening closing s p
    unfolding first_in
    first_some u = rw (← ea, eq-eqb a opening t, ← ei, ← eb, ne_eqb b closing u)

-- ---- the walk for four names, begun at m and come to i

-- what is known of a name, with the members of a list that have it
unfoldable pub joined : List ℕ → Given → List ℕ → Given
joined s g [] = g
joined s g (m ∷ l) = joined s (more g (value_of s m)) l

joined_twice : (s l : List ℕ) → joined s (Err Twice) l ≡ Err Twice
unfolding more joined
joined_twice s [] = refl
joined_twice s (m ∷ l) = joined_twice s l

joined_only : (s l : List ℕ) → only s l ≡ joined s (Err Never) l
unfolding only more joined
joined_only s [] = refl
joined_only s (m ∷ []) = refl
joined_only s (m ∷ n ∷ l) = sym (joined_twice s l)

named-cons : (name s : List ℕ) (i : ℕ) → i ≤ length s
    → named_from name s (Some i) ≡ pick (is_name name s i) (i ∷ named_from name s (next_member s i)) (named_from name s (next_member s i))
unfolding named_from
named-cons name s i h = ap (keep (is_name name s)) (items_cons (next_member s) s (member_onward s) i h) ∙ (unfold keep in refl)

joined_pick : (s : List ℕ) (g : Given) (i : ℕ) (l : List ℕ) (t : Bool) → joined s g (pick t (i ∷ l) l) ≡ joined s (pick t (more g (value_of s i)) g) l
unfolding joined
joined_pick s g i l true = refl
joined_pick s g i l false = refl

abbrev pub Known : List ℕ → List ℕ → ℕ → ℕ → Given → Type 0
Known name s m i g = only s (named_from name s (Some m)) ≡ joined s g (named_from name s (Some i))

-- with the member at i
known_on : (name s : List ℕ) (m i : ℕ) (g : Given) {h : Given} {q : Option ℕ} → i ≤ length s → Known name s m i g → h ≡ noted name s g i → q ≡ next_member s i
    → only s (named_from name s (Some m)) ≡ joined s h (named_from name s q)
unfolding noted
known_on name s m i g l k eh eq =
    k ∙ ap (joined s g) (named-cons name s i l) ∙ joined_pick s g i (named_from name s (next_member s i)) (is_name name s i) ∙ rw (eh, eq)

pub record Walking (a b c d s : List ℕ) (m i : ℕ) (w x y z : Given) : Type 0 where
  pub here : i ≤ length s
  pub first : Known a s m i w
  pub second : Known b s m i x
  pub third : Known c s m i y
  pub fourth : Known d s m i z

pub walk_start : (a b c d s : List ℕ) (m : ℕ) → m ≤ length s → Walking a b c d s m m (Err Never) (Err Never) (Err Never) (Err Never)
walk_start a b c d s m h =
    record { here = h; first = joined_only s _; second = joined_only s _; third = joined_only s _; fourth = joined_only s _ }

module _ {a b c d s : List ℕ} {m i : ℕ} {w x y z : Given} (k : Walking a b c d s m i w x y z) where
  module _ {w' x' y' z' : Given} (ew : w' ≡ noted a s w i) (ex : x' ≡ noted b s x i) (ey : y' ≡ noted c s y i) (ez : z' ≡ noted d s z i) {q : Option ℕ} (eq : q ≡ next_member s i) where
    none_left : (name : List ℕ) (g : Given) → q ≡ None → joined s g (named_from name s q) ≡ g
    unfolding named_from items_by keep joined
    none_left name g e = rw e

    pub walk_end : q ≡ None → ◌≡◌ {A = Four} (record { a = w'; b = x'; c = y'; d = z' }) (four_from a b c d s (Some m))
    walk_end e =
        let p = known_on a s m i w k.here k.first ew eq ∙ none_left a w' e in
        let r = known_on b s m i x k.here k.second ex eq ∙ none_left b x' e in
        let t = known_on c s m i y k.here k.third ey eq ∙ none_left c y' e in
        let u = known_on d s m i z k.here k.fourth ez eq ∙ none_left d z' e in
        sym (λ i. record { a = p i; b = r i; c = t i; d = u i })

    pub walk-on : {j : ℕ} → q ≡ Some j → Walking a b c d s m j w' x' y' z'
    walk-on {j} e =
        let o : Onward (length s) i (Some j) = rw (sym eq ∙ e) at (member_onward s i) in
        record {
          here = o.1;
          first = known_on a s m i w k.here k.first ew (sym e ∙ eq);
          second = known_on b s m i x k.here k.second ex (sym e ∙ eq);
          third = known_on c s m i y k.here k.third ey (sym e ∙ eq);
          fourth = known_on d s m i z k.here k.fourth ez (sym e ∙ eq);
        }

pub walk_less : (s : List ℕ) (i : ℕ) {q : Option ℕ} {j : ℕ} → q ≡ next_member s i → q ≡ Some j → length s - j < length s - i
walk_less s i {q} {j} eq e =
    let o : Onward (length s) i (Some j) = rw (sym eq ∙ e) at (member_onward s i) in
    omega (arith, o.0, o.1)

-- ---- the way to the k-th element, begun at a and come to i in n steps

pub record Reaching (s : List ℕ) (a k i n : ℕ) : Type 0 where
  pub here : i ≤ length s
  pub rest : ℕ
  pub steps : n + rest ≡ k
  pub left : pick_nth k (elements_from s (Some a)) ≡ pick_nth rest (elements_from s (Some i))

pub reach_start : (s : List ℕ) (a k : ℕ) → a ≤ length s → Reaching s a k a 0
reach_start s a k h = record { here = h; rest = k; steps = omega arith; left = refl }

nth-zero : (n i : ℕ) (l : List ℕ) → n ≡ 0 → pick_nth n (i ∷ l) ≡ Some i
unfolding pick_nth
nth-zero n i l e = rw e

nth_on : (n i : ℕ) (l : List ℕ) → (n ≡ 0 → ⊥) → pick_nth n (i ∷ l) ≡ pick_nth (n - 1) l
unfolding pick_nth
nth_on zero i l h = absurd (h refl)
nth_on (suc n) i l h = rw (sub-one (suc n))

nth-none : (n : ℕ) → pick_nth n [] ≡ None
unfolding pick_nth
nth-none zero = refl
nth-none (suc n) = refl

module _ {s : List ℕ} {a k i n : ℕ} (w : Reaching s a k i n) where
  here-cons : elements_from s (Some i) ≡ i ∷ elements_from s (next_element s i)
  here-cons = items_cons (next_element s) s (element_onward s) i w.here

  pub reach_end : k ≤ n → Some i ≡ pick_nth k (elements_from s (Some a))
  reach_end e = sym (w.left ∙ ap (pick_nth w.rest) here-cons ∙ nth-zero w.rest i (elements_from s (next_element s i)) (omega (arith, w.steps)))

  module _ (h : n < k) {q : Option ℕ} (eq : q ≡ next_element s i) where
    next_left : pick_nth k (elements_from s (Some a)) ≡ pick_nth (w.rest - 1) (elements_from s (next_element s i))
    next_left = w.left ∙ ap (pick_nth w.rest) here-cons ∙ nth_on w.rest i (elements_from s (next_element s i)) (λ z. omega (arith, w.steps, z))

    pub reach_gone : q ≡ None → None ≡ pick_nth k (elements_from s (Some a))
    unfolding items_by
    reach_gone g = sym (next_left ∙ rw (sym eq ∙ g) (nth-none (w.rest - 1)))

    pub reach_on : {j : ℕ} → q ≡ Some j → Reaching s a k j (n + 1)
    reach_on {j} g =
        let e : next_element s i ≡ Some j = sym eq ∙ g in
        let o : Onward (length s) i (Some j) = rw e at (element_onward s i) in
        record { here = o.1; rest = w.rest - 1; steps = omega (arith, w.steps); left = next_left ∙ rw e }

-- ---- the members with four names

module _ (a b c d s : List ℕ) (p : ℕ) {q : Option ℕ} (eq : q ≡ first_in 0x7B 0x7D s p) where
  four_is : four_of a b c d s p ≡ four_from a b c d s q
  unfolding member named members named_from
  four_is = rw eq

  pub four_none : q ≡ None → ◌≡◌ {A = Four} (record { a = Err Never; b = Err Never; c = Err Never; d = (Err Never) }) (four_of a b c d s p)
  unfolding named_from items_by keep only
  four_none g = sym (four_is ∙ rw g)

  module _ {m : ℕ} (g : q ≡ Some m) where
    pub four_room : m ≤ length s
    four_room = let o : Onward (length s) p (Some m) = rw (sym eq ∙ g) at (first_onward 0x7B 0x7D s p (omega arith)) in o.1

    pub four_some : {r : Four} → r ≡ four_from a b c d s (Some m) → r ≡ four_of a b c d s p
    four_some er = er ∙ ap (four_from a b c d s) (sym g) ∙ sym four_is

-- ---- an element

module _ (k : ℕ) (s : List ℕ) (p : ℕ) {q : Option ℕ} (eq : q ≡ first_in 0x5B 0x5D s p) where
  pub no-array : q ≡ None → None ≡ element k s p
  unfolding element elements
  no-array g = rw (sym eq ∙ g) (sym (unfold items_by in nth-none k))

  module _ {a : ℕ} (g : q ≡ Some a) where
    pub array-room : a ≤ length s
    array-room =
        let o : Onward (length s) p (Some a) = rw (sym eq ∙ g) at (first_onward 0x5B 0x5D s p (omega arith)) in
        o.1

    pub element-is : {r : Option ℕ} → r ≡ pick_nth k (elements_from s (Some a)) → r ≡ element k s p
    unfolding element elements
    element-is e = rw (sym eq ∙ g) e

-- ---- arrays of three and of one

module _ (s : List ℕ) (p : ℕ) {q : Option ℕ} (eq : q ≡ first_in 0x5B 0x5D s p) where
  from_first : elements s p ≡ elements_from s q
  unfolding elements
  from_first = rw eq

  pub three-none : q ≡ None → None ≡ three_of (elements s p)
  unfolding three_of items_by
  three-none g = let l : elements s p ≡ [] = from_first ∙ rw g in sym (ap three_of l)

  pub lone_none : q ≡ None → None ≡ lone_of (elements s p)
  unfolding lone_of items_by
  lone_none g = let l : elements s p ≡ [] = from_first ∙ rw g in sym (ap lone_of l)

  module _ {x : ℕ} (g : q ≡ Some x) {r : Option ℕ} (er : r ≡ next_element s x) where
    first-room : x ≤ length s
    first-room = let o : Onward (length s) p (Some x) = rw (sym eq ∙ g) at (first_onward 0x5B 0x5D s p (omega arith)) in o.1

    one_on : elements s p ≡ x ∷ elements_from s r
    one_on = from_first ∙ rw g (items_cons (next_element s) s (element_onward s) x first-room ∙ rw (sym er))

    pub three-one : r ≡ None → None ≡ three_of (elements s p)
    unfolding three_of items_by
    three-one e = let l : elements s p ≡ x ∷ [] = one_on ∙ rw e in sym (ap three_of l)

    pub lone_one : r ≡ None → Some x ≡ lone_of (elements s p)
    unfolding lone_of items_by
    lone_one e = let l : elements s p ≡ x ∷ [] = one_on ∙ rw e in sym (ap lone_of l)

    module _ {y : ℕ} (h : r ≡ Some y) where
      next-room : y ≤ length s
      next-room = let o : Onward (length s) x (Some y) = rw (sym er ∙ h) at (element_onward s x) in o.1

      two-on : elements s p ≡ x ∷ y ∷ elements_from s (next_element s y)
      two-on = one_on ∙ ap (λ (l : List ℕ). x ∷ l) (rw h (items_cons (next_element s) s (element_onward s) y next-room))

      pub lone_many : None ≡ lone_of (elements s p)
      unfolding lone_of
      lone_many = sym (ap lone_of two-on)

      module _ {t : Option ℕ} (et : t ≡ next_element s y) where
        pub three-two : t ≡ None → None ≡ three_of (elements s p)
        unfolding three_of items_by
        three-two e = let l : elements s p ≡ x ∷ y ∷ [] = two-on ∙ rw (sym et ∙ e) in sym (ap three_of l)

        module _ {z : ℕ} (k : t ≡ Some z) {u : Option ℕ} (eu : u ≡ next_element s z) where
          third-room : z ≤ length s
          third-room = let o : Onward (length s) y (Some z) = rw (sym et ∙ k) at (element_onward s y) in o.1

          three-on : elements s p ≡ x ∷ y ∷ z ∷ elements_from s u
          three-on = two-on ∙ ap (λ (l : List ℕ). x ∷ y ∷ l) (rw (sym et ∙ k) (items_cons (next_element s) s (element_onward s) z third-room ∙ rw (sym eu)))

          pub three_are : u ≡ None → Some (record { x = x; y = y; z = z }) ≡ three_of (elements s p)
          unfolding three_of items_by
          three_are e = let l : elements s p ≡ x ∷ y ∷ z ∷ [] = three-on ∙ rw e in sym (ap three_of l)

          pub three_many : {n : ℕ} → u ≡ Some n → None ≡ three_of (elements s p)
          unfolding three_of
          three_many {n} e =
              let o : Onward (length s) z (Some n) = rw (sym eu ∙ e) at (element_onward s z) in
              let l : elements s p ≡ x ∷ y ∷ z ∷ n ∷ elements_from s (next_element s n) =
              three-on ∙ ap (λ (l : List ℕ). x ∷ y ∷ z ∷ l) (rw e (items_cons (next_element s) s (element_onward s) n o.1)) in
              sym (ap three_of l)
