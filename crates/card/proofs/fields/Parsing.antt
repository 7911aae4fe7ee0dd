-- What the functions that read a card's fields need.
use Prim.Native.Nat.{ℕ, ◌+◌}
use mathlib.Core.Path.{◌≡◌, ap, ◌∙◌}
use mathlib.Core.Bool.{Bool, not, ◌&&◌}
use mathlib.Core.List.{List}
use borrow.Author.Rules.{rules}
use lib.Dec.{eqb}
use lib.IntN.{ℤ}
use lib.ListN.{get_or}
use mir.Syntax.{w32}
use mir.Val.{SFits, to_z, of_z}
use mir.Facts.{to_z-of_z}
use Rattle.endian.specs.Little.{le_at}
use Rattle.morton.specs.declared.grid.Offset.{Offset}
use Rattle.card.specs.fields.Twos.{signed32, no_offset}
use Rattle.card.specs.fields.Fields.{field_at, six_fields, card_offset_at, offset_field, kind_field}

-- ---- one field
pub field_is : (tag k : ℕ) (s : List ℕ) (p : ℕ) {a b : ℕ} → a ≡ get_or s p 0 → b ≡ le_at 2 s (p + 1) → (eqb a tag && eqb b k) ≡ field_at tag k s p
unfolding field_at
field_is tag k s p e f = cc

-- an i32 in a local is read back from its bits
back : {z : ℤ} {u v : ℕ} → SFits w32 z → z ≡ signed32 u → u ≡ v → to_z w32 (of_z w32 z) ≡ signed32 v
back f p q = to_z-of_z f ∙ p ∙ ap signed32 q

pub offset_made : (s : List ℕ) (at : ℕ) {x y z : ℤ} {u v w : ℕ} → SFits w32 x → SFits w32 y → SFits w32 z
    → x ≡ signed32 u → u ≡ le_at 4 s at → y ≡ signed32 v → v ≡ le_at 4 s (at + 4) → z ≡ signed32 w → w ≡ le_at 4 s (at + 8)
    → ◌≡◌ {A = Offset} (record { x = to_z w32 (of_z w32 x); y = to_z w32 (of_z w32 y); z = to_z w32 (of_z w32 z) }) (card_offset_at s at)
unfolding card_offset_at
offset_made s at fx fy fz p p' q q' r r' =
    let px = back fx p p' in
    let py = back fy q q' in
    let pz = back fz r r' in
    λ i. record { x = px i; y = py i; z = pz i }

-- ---- all fields
module _ (s : List ℕ) where
  pub six_is : {a b c d e f : Bool} → a ≡ field_at 1 1 s 0 → b ≡ field_at 2 1 s 4 → c ≡ field_at 3 1 s 8 → d ≡ field_at 4 1 s 12
      → e ≡ field_at 5 12 s 16 → f ≡ field_at 6 12 s 31 → (a && (b && (c && (d && (e && f))))) ≡ six_fields s
  unfolding six_fields
  six_is ha hb hc hd he hf = cc

  pub offset-field-is : {a b : Bool} {o : Offset} → a ≡ field_at 7 12 s 46 → b ≡ no_offset o → o ≡ card_offset_at s 49 → (a && not b) ≡ offset_field s
  unfolding offset_field
  offset-field-is p q r = cc

  pub kind-field-is : (p : ℕ) {a : Bool} {b : ℕ} → a ≡ field_at 8 1 s p → b ≡ get_or s (p + 3) 0 → (a && eqb b 1) ≡ kind_field s p
  unfolding kind_field
  kind-field-is p e f = cc

pub ruleset parsing = (field_is, offset_made, six_is, offset-field-is, kind-field-is, rules)
