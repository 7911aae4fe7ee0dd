-- A value that is nested at most d deep is nested at most n deep, for every n from d on.
use Prim.Native.Nat.{ℕ, zero, suc, ◌+◌, ◌≤◌}
use mathlib.Core.List.{List}
use native.Mathlib.Omega.{arith}
use Rattle.json_text.specs.Rfc.{Items, Listed, Member, ValueOf, Value}

module _ (s : List ℕ) (A B : ℕ → ℕ → Type 0) (f : (i e : ℕ) → A i e → B i e) where
  items_map : (close i e : ℕ) → Items s A close i e → Items s B close i e
  items_map close i e (Items.last {j = j} v w b) = Items.last (f i j v) w b
  items_map close i e (Items.next {j = j} {m = m} v w b x r) = Items.next (f i j v) w b x (items_map close m e r)

  listed-map : (close i e : ℕ) → Listed s A close i e → Listed s B close i e
  listed-map close i e (Listed.empty w b) = Listed.empty w b
  listed-map close i e (Listed.some {k = k} w r) = Listed.some w (items_map close k e r)

  pub member-map : (i e : ℕ) → Member s A i e → Member s B i e
  member-map i e (Member.member {m = m} t w b x v) = Member.member t w b x (f m e v)

pub value_deeper : (d n : ℕ) (s : List ℕ) → d ≤ n → (i e : ℕ) → Value s d i e → Value s n i e
value_deeper zero n s h i e v = absurd v
value_deeper (suc d) zero s h i e v = absurd (omega arith)
value_deeper (suc d) (suc n) s h i e (ValueOf.is_true t) = ValueOf.is_true t
value_deeper (suc d) (suc n) s h i e (ValueOf.is_null t) = ValueOf.is_null t
value_deeper (suc d) (suc n) s h i e (ValueOf.is_false b t) = ValueOf.is_false b t
value_deeper (suc d) (suc n) s h i e (ValueOf.is_number t) = ValueOf.is_number t
value_deeper (suc d) (suc n) s h i e (ValueOf.is-string t) = ValueOf.is-string t
value_deeper (suc d) (suc n) s h i e (ValueOf.array b r) =
    ValueOf.array b (listed-map s (Value s d) (Value s n) (value_deeper d n s (omega arith)) 0x5D (i + 1) e r)
value_deeper (suc d) (suc n) s h i e (ValueOf.object b r) =
    ValueOf.object b (listed-map s (Member s (Value s d)) (Member s (Value s n)) (member-map s (Value s d) (Value s n) (value_deeper d n s (omega arith))) 0x7D (i + 1) e r)
