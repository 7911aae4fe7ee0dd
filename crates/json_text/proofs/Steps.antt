-- What the functions of this crate need: each way out as a case of its definition. b, i, r are what was read or what calls gave.
use Prim.Native.Nat.{ℕ, zero, suc, ◌+◌, ◌-◌, ◌<◌, ◌≤◌}
use mathlib.Core.Path.{◌≡◌, refl, sym, ap, ◌∙◌, subst}
use mathlib.Core.List.{List}
use native.Mathlib.Omega.{arith}
use native.Mathlib.Numerals.{sub-one}
use lib.ListN.{length, get_or}
use Rattle.json_text.specs.tokens.Bytes.{choose, same}
use Rattle.json_text.specs.tokens.Parts.{follow, ws, mark_at, close_at}
use Rattle.std.specs.Prelude.{Option, Some, None, unwrap_or}
use Rattle.json_text.proofs.tokens.Laws.{if-eq, if_ne, then_at, then_nothing, at_byte}
use Rattle.std.specs.declared.ops.ControlFlow.{ControlFlow}
use Rattle.std.specs.declared.ops.ControlFlow.TheVariants.{Continue, Break}
use Rattle.json_text.specs.strings.Chars.{string_at}
use Rattle.json_text.specs.Grammar.{end_of, scalar_at, next_at, items_at, list_at, member_at, value_at}
use Rattle.json_text.proofs.Ahead.{Ahead, value_ahead, member_ahead, mark_ahead}
use Rattle.json_text.proofs.Turns.{items_none, items_last, items_on, mark_most}

-- ---- a position as one number

or_zero : (f : Option ℕ) {e : ℕ} → e ≡ unwrap_or f 0 → e ≡ end_of f
unfolding end_of
or_zero (Some n) h = h
or_zero None h = h

pub end-at : (f : Option ℕ) {e : ℕ} → f ≡ Some e → e ≡ end_of f
unfolding end_of
end-at f h = rw h

pub end_none : (f : Option ℕ) → f ≡ None → 0 ≡ end_of f
unfolding end_of
end_none f h = rw h

-- what ends behind k is there just if the number is not 0
pub no_end : (k : ℕ) (f : Option ℕ) {e : ℕ} → Ahead (k + 1) f → e ≡ end_of f → e ≡ 0 → f ≡ None
unfolding end_of
no_end k (Some n) a h z = absurd (omega (arith, a n refl))
no_end k None a h z = refl

pub some_end : (f : Option ℕ) {e : ℕ} → e ≡ end_of f → (e ≡ 0 → ⊥) → f ≡ Some e
unfolding end_of
some_end (Some n) h z = ap Some (sym h)
some_end None h z = absurd (z h)

-- ---- a scalar

module _ (s : List ℕ) (i : ℕ) {b : ℕ} (eb : b ≡ get_or s i 0) where
  pub byte_most : {m : ℕ} → b ≡ m → 0 < m → i ≤ length s
  byte_most t h = omega (arith, at_byte s i _ h (sym eb ∙ t))

-- ---- a value

value-some : (d : ℕ) (s : List ℕ) (i : ℕ) → (d ≡ 0 → ⊥) → value_at d s i ≡
    choose (same (get_or s i 0) 0x7B) (list_at (member_at (value_at (d - 1) s) s) 0x7D s (i + 1))
    (choose (same (get_or s i 0) 0x5B) (list_at (value_at (d - 1) s) 0x5D s (i + 1)) (scalar_at s i))
unfolding value_at
value-some zero s i h = absurd (h refl)
value-some (suc d) s i h = rw (sub-one (suc d))

module _ (d : ℕ) (s : List ℕ) (i : ℕ) where
  pub value_none : d ≡ 0 → 0 ≡ end_of (value_at d s i)
  unfolding value_at
  value_none e = end_none (value_at d s i) (rw e)

  module _ (h : d ≡ 0 → ⊥) {b : ℕ} (eb : b ≡ get_or s i 0) {r : ℕ} where
    pub value-object : b ≡ 123 → r ≡ end_of (list_at (member_at (value_at (d - 1) s) s) 125 s (i + 1)) → r ≡ end_of (value_at d s i)
    value-object t er = er ∙ ap end_of (sym (value-some d s i h ∙ if-eq _ _ _ _ (sym eb ∙ t)))

    module _ (n : b ≡ 123 → ⊥) where
      pub value-array : b ≡ 91 → r ≡ end_of (list_at (value_at (d - 1) s) 93 s (i + 1)) → r ≡ end_of (value_at d s i)
      value-array t er = er ∙ ap end_of (sym (value-some d s i h ∙ if_ne _ _ _ _ (λ q. n (eb ∙ q)) ∙ if-eq _ _ _ _ (sym eb ∙ t)))

      pub value_scalar : {x : Option ℕ} → (b ≡ 91 → ⊥) → x ≡ scalar_at s i → r ≡ unwrap_or x 0 → r ≡ end_of (value_at d s i)
      value_scalar {x} m ex er = or_zero x er ∙ ap end_of (ex ∙ sym (value-some d s i h ∙ if_ne _ _ _ _ (λ q. n (eb ∙ q)) ∙ if_ne _ _ _ _ (λ q. m (eb ∙ q))))

-- ---- a member

module _ (value : ℕ → Option ℕ) (s : List ℕ) (i : ℕ) {p : Option ℕ} (ep : p ≡ string_at s i) where
  pub member_unnamed : p ≡ None → 0 ≡ end_of (member_at value s i)
  unfolding member_at
  member_unnamed e = end_none _ (then_nothing _ _ (sym ep ∙ e))

  module _ {e : ℕ} (ee : p ≡ Some e) {q : Option ℕ} (eq : q ≡ mark_at 58 s e) where
    pub member_unmarked : q ≡ None → 0 ≡ end_of (member_at value s i)
    unfolding member_at
    member_unmarked n = end_none _ (then_at _ _ e (sym ep ∙ ee) ∙ then_nothing _ _ (sym eq ∙ n))

    pub member_valued : {j r : ℕ} → q ≡ Some j → r ≡ end_of (value j) → r ≡ end_of (member_at value s i)
    unfolding member_at
    member_valued {j} t er = er ∙ ap end_of (sym (then_at _ _ e (sym ep ∙ ee) ∙ then_at _ _ j (sym eq ∙ t)))

-- ---- the list that begins at `at` is passed up to i

pub record Listing (item : ℕ → Option ℕ) (close : ℕ) (s : List ℕ) (at i : ℕ) : Type 0 where
  pub ahead : (k : ℕ) → Ahead (k + 1) (item k)
  pub fuel : ℕ
  pub enough : length s ≤ fuel + i
  pub left : list_at item close s at ≡ items_at item close s fuel i

module _ (item : ℕ → Option ℕ) (close : ℕ) (s : List ℕ) (at : ℕ) {i b : ℕ} (ei : i ≡ ws s at) (eb : b ≡ get_or s i 0) where
  there : get_or s (ws s at) 0 ≡ b
  there = ap (λ (j : ℕ). get_or s j 0) (sym ei) ∙ sym eb

  pub list-empty : b ≡ close → i + 1 ≡ end_of (list_at item close s at)
  unfolding list_at
  list-empty t = end-at _ (if-eq _ _ _ _ (there ∙ t) ∙ ap (λ (j : ℕ). Some (j + 1)) (sym ei))

  list-start : ((k : ℕ) → Ahead (k + 1) (item k)) → (b ≡ close → ⊥) → Listing item close s at i
  unfolding list_at
  list-start h n = record {
    ahead = h;
    fuel = length s;
    enough = omega arith;
    left = if_ne _ _ _ _ (λ q. n (sym there ∙ q)) ∙ ap (items_at item close s (length s)) (sym ei);
  }

module _ (d : ℕ) (close : ℕ) (s : List ℕ) (at : ℕ) {i b : ℕ} (ei : i ≡ ws s at) (eb : b ≡ get_or s i 0) (n : b ≡ close → ⊥) where
  pub array-start : Listing (value_at d s) close s at i
  array-start = list-start (value_at d s) close s at ei eb (value_ahead d s) n

  pub object-start : Listing (member_at (value_at d s) s) close s at i
  object-start = list-start (member_at (value_at d s) s) close s at ei eb (member_ahead (value_at d s) s (value_ahead d s)) n

-- what a step from i comes to: a later item, from where the same is left, or the end of the list
abbrev pub Stepped : (ℕ → Option ℕ) → ℕ → List ℕ → ℕ → ℕ → ControlFlow ℕ ℕ → Type 0
Stepped item close s at i (Continue j) = Listing item close s at j × (length s - j < length s - i)
Stepped item close s at i (Break r) = r ≡ end_of (list_at item close s at)

module _ {item : ℕ → Option ℕ} {close : ℕ} {s : List ℕ} {at i : ℕ} (k : Listing item close s at i) (h : 0 < close) where
  by_mark : (e : ℕ) (m : Option ℕ) → item i ≡ Some e → mark_at 0x2C s e ≡ m → Stepped item close s at i (follow m Continue (Break (end_of (close_at close s e))))
  unfolding follow
  by_mark e (Some j) p q =
      let onward : i < j = omega (arith, k.ahead i e p, mark_ahead 0x2C s e j q) in
      let x = items_on item close s k.ahead k.fuel i e j (list_at item close s at) k.enough k.left p q onward in
      (record { ahead = k.ahead; fuel = x.0; enough = x.1; left = x.2 }, omega (arith, onward, mark_most 0x2C s e j (omega arith) q))
  by_mark e None p q = ap end_of (sym (k.left ∙ items_last item close s k.ahead k.fuel i e k.enough h p q))

  by_item : (f : Option ℕ) → item i ≡ f → Stepped item close s at i (next_at close s (end_of f))
  unfolding next_at end_of
  by_item (Some e) p = rw (if_ne e 0 (Break 0) (follow (mark_at 0x2C s e) Continue (Break (end_of (close_at close s e)))) (λ z. omega (arith, k.ahead i e p))) (by_mark e (mark_at 0x2C s e) p refl)
  by_item None p = rw (if-eq 0 0 (Break 0) (follow (mark_at 0x2C s 0) Continue (Break (end_of (close_at close s 0)))) refl) (end_none _ (k.left ∙ items_none item close s k.fuel i p))

  -- the law of the two loops, over the item and the closing bracket
  module _ {e : ℕ} (ee : e ≡ end_of (item i)) {q : ControlFlow ℕ ℕ} (eq : q ≡ next_at close s e) where
    pub list-step : {n : ControlFlow ℕ ℕ} → q ≡ n → Stepped item close s at i n
    list-step t = subst (Stepped item close s at i) (ap (next_at close s) (sym ee) ∙ sym eq ∙ t) (by_item (item i) refl)

    pub list-end : {r : ℕ} → q ≡ Break r → r ≡ end_of (list_at item close s at)
    list-end t = list-step t

    pub list_on : {j : ℕ} → q ≡ Continue j → Listing item close s at j
    list_on t = (list-step t).0

    pub list_less : {j : ℕ} → q ≡ Continue j → length s - j < length s - i
    list_less t = (list-step t).1
