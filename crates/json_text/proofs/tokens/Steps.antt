-- Where a byte that is a mark or of a class was read, its place lies within the text, so that the next place fits. b and t are what was read and tested.
use Prim.Native.Nat.{ℕ, ◌+◌, ◌<◌}
use mathlib.Core.Path.{◌≡◌, refl, sym, ap, ◌∙◌}
use mathlib.Core.List.{List}
use mathlib.Core.Bool.{Bool, true, false}
use native.Mathlib.Omega.{arith}
use lib.ListN.{length, get_or}
use mir.Syntax.{w64}
use mir.Val.{Fits}
use Rattle.json_text.specs.tokens.Bytes.{same}
use Rattle.json_text.specs.tokens.Numbers.{is_sign, is_e}
use Rattle.json_text.proofs.tokens.Laws.{at_byte, in_text}

pub mark_room : (s : List ℕ) (p : ℕ) {b mark : ℕ} → Fits w64 (length s) → b ≡ get_or s p 0 → b ≡ mark → 0 < mark → Fits w64 (p + 1)
mark_room s p f e t h = omega (arith, at_byte s p _ h (sym e ∙ t), f)

pub class_room : (class : ℕ → Bool) (s : List ℕ) (i : ℕ) {b : ℕ} {t : Bool} → Fits w64 (length s) → b ≡ get_or s i 0 → t ≡ class b → t ≡ true → class 0 ≡ false → Fits w64 (i + 1)
class_room class s i f eb et e z = omega (arith, in_text class s i z (sym (et ∙ ap class eb) ∙ e), f)

sign_zero : is_sign 0 ≡ false
unfolding is_sign same
sign_zero = refl

e_zero : is_e 0 ≡ false
unfolding is_e same
e_zero = refl

module _ (s : List ℕ) (i : ℕ) {b : ℕ} (eb : b ≡ get_or s i 0) {t : Bool} where
  pub sign_room : t ≡ is_sign b → Fits w64 (length s) → t ≡ true → Fits w64 (i + 1)
  sign_room et f e = class_room is_sign s i f eb et e sign_zero

  pub exp-room : t ≡ is_e b → Fits w64 (length s) → t ≡ true → Fits w64 (i + 1)
  exp-room et f e = class_room is_e s i f eb et e e_zero
