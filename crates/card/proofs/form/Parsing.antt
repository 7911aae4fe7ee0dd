-- What tells whether bytes are a card, a law for each way out, and how long a card is.
use Prim.Native.Nat.{ℕ, ◌≤◌}
use mathlib.Core.Path.{◌≡◌, refl}
use mathlib.Core.Bool.{Bool, true, false, ◌&&◌, ◌||◌, true≢false}
use mathlib.Core.List.{List}
use native.Mathlib.Omega.{arith}
use borrow.Author.Rules.{rules}
use borrow.Author.Tests.{eqb-true, ne_eqb}
use lib.Dec.{eqb}
use lib.ListN.{length}
use Rattle.refusal.specs.Choice.{pick}
use Rattle.card.specs.fields.Fields.{six_fields, offset_field, kind_field}
use Rattle.card.specs.form.Form.{well_formed}

-- ---- the four lengths: without an offset or with one, of a volume or of a mesh
pub data CardLength (n : ℕ) : Type 0 where
  bare : n ≡ 46 → CardLength n
  shifted : n ≡ 61 → CardLength n
  bare_mesh : n ≡ 50 → CardLength n
  shifted_mesh : n ≡ 65 → CardLength n

at_least : (n : ℕ) → CardLength n → 46 ≤ n
at_least n (bare e) = omega arith
at_least n (shifted e) = omega arith
at_least n (bare_mesh e) = omega arith
at_least n (shifted_mesh e) = omega arith

with_offset : (n : ℕ) → CardLength n → (eqb n 46 || eqb n 50) ≡ false → 61 ≤ n
with_offset n (bare e) f = absurd (true≢false (rw e at f))
with_offset n (shifted e) f = omega arith
with_offset n (bare_mesh e) f = absurd (true≢false (rw e at f))
with_offset n (shifted_mesh e) f = omega arith

-- ---- all fields
module _ (s : List ℕ) where
  pub formed_46 : {a : Bool} → length s ≡ 46 → a ≡ six_fields s → a ≡ well_formed s
  unfolding well_formed
  formed_46 h p = rw h p

  pub formed_61 : {a b : Bool} → length s ≡ 61 → a ≡ six_fields s → b ≡ offset_field s → (a && b) ≡ well_formed s
  unfolding well_formed
  formed_61 h p q = rw h (cc)

  pub formed_50 : {a b : Bool} → length s ≡ 50 → a ≡ six_fields s → b ≡ kind_field s 46 → (a && b) ≡ well_formed s
  unfolding well_formed
  formed_50 h p q = rw h (cc)

  pub formed_65 : {a b c : Bool} → length s ≡ 65 → a ≡ six_fields s → b ≡ offset_field s → c ≡ kind_field s 61 → (a && (b && c)) ≡ well_formed s
  unfolding well_formed
  formed_65 h p q r = rw h (cc)

  pub formed-never : (length s ≡ 46 → ⊥) → (length s ≡ 61 → ⊥) → (length s ≡ 50 → ⊥) → (length s ≡ 65 → ⊥) → false ≡ well_formed s
  unfolding well_formed
  formed-never a b c d = rw (ne_eqb (length s) 46 a, ne_eqb (length s) 61 b, ne_eqb (length s) 50 c, ne_eqb (length s) 65 d)

  picked_length : (n : ℕ) (a b c d x y z w : Bool) → eqb n 46 ≡ a → eqb n 61 ≡ b → eqb n 50 ≡ c → eqb n 65 ≡ d
      → pick a x (pick b y (pick c z (pick d w false))) ≡ true → CardLength n
  picked_length n true b c d x y z w p q r t e = bare (eqb-true n 46 p)
  picked_length n false true c d x y z w p q r t e = shifted (eqb-true n 61 q)
  picked_length n false false true d x y z w p q r t e = bare_mesh (eqb-true n 50 r)
  picked_length n false false false true x y z w p q r t e = shifted_mesh (eqb-true n 65 t)
  picked_length n false false false false x y z w p q r t e = let z : ◌≡◌ {A = ℕ} 0 1 = cc in absurd (omega arith)

  pub formed-length : well_formed s ≡ true → CardLength (length s)
  unfolding well_formed
  formed-length e = picked_length (length s) _ _ _ _ _ _ _ _ refl refl refl refl e

  module _ (e : well_formed s ≡ true) where
    pub room_46 : 46 ≤ length s
    room_46 = at_least (length s) (formed-length e)

    pub room_31 : 31 ≤ length s
    room_31 = omega (arith, room_46)

    pub room_61 : (eqb (length s) 46 || eqb (length s) 50) ≡ false → 61 ≤ length s
    room_61 f = with_offset (length s) (formed-length e) f

pub ruleset parsing = (formed_46, formed_61, formed_50, formed_65, formed-never, rules)
