-- What the writers of numbers need: digits by their count, a number with its sign, and that number from an i64.
use Prim.Native.Nat.{ℕ, ◌+◌, ◌≤◌, ◌<◌}
use mathlib.Core.Path.{◌≡◌, refl, ap, ◌∙◌}
use mathlib.Core.Bool.{Bool, true, false}
use mathlib.Core.List.{List, [], ◌∷◌}
use native.Mathlib.Omega.{arith}
use borrow.Author.Rules.{rules}
use borrow.Author.Tests.{le-ltb}
use lib.IntN.{ℤ, pos, negsuc}
use Rattle.std.specs.Prelude.{unsigned_abs}
use Rattle.std.specs.Int.{is_negative}
use lib.ListN.{length}
use mir.Syntax.{w64}
use mir.Val.{SFits, to_z, of_z}
use mir.Facts.{to_z-of_z}
use Rattle.endian.specs.Place.{paste}
use Rattle.endian.proofs.Paste.{paste-then, length-paste}
use Rattle.names.specs.digits.Digits.{digits, decimal}
use Rattle.names.specs.digits.Signs.{negative, sign_parts, signed_text}
use Rattle.names.specs.declared.digits.Signed.{Signed}
use Rattle.names.proofs.digits.Numerals.{decimal-length}

-- ---- digits by their count

module _ (v n : ℕ) (e : n ≡ length (decimal v)) where
  pub decimal-is : digits 10 n v ≡ decimal v
  unfolding decimal
  decimal-is = ap (λ (k : ℕ). digits 10 k v) (e ∙ decimal-length v)

  pub decimal-put : (at : ℕ) (d s : List ℕ) → s ≡ paste at (digits 10 n v) d → s ≡ paste at (decimal v) d
  decimal-put at d s q = q ∙ ap (λ (t : List ℕ). paste at t d) decimal-is

-- ---- a number: its sign and its digits

module _ (n : Signed) where
  text_neg : n.negative ≡ true → signed_text n ≡ 45 ∷ decimal n.magnitude
  unfolding signed_text
  text_neg t = rw t

  text_pos : n.negative ≡ false → signed_text n ≡ decimal n.magnitude
  unfolding signed_text
  text_pos t = rw t

  pub length_neg : n.negative ≡ true → (k : ℕ) → k ≡ length (decimal n.magnitude) → k + 1 ≡ length (signed_text n)
  length_neg t k e = rw (text_neg t) (omega arith)

  pub length_pos : n.negative ≡ false → (k : ℕ) → k ≡ length (decimal n.magnitude) → k ≡ length (signed_text n)
  length_pos t k e = rw (text_pos t) (omega arith)

  module _ (at : ℕ) (d : List ℕ) (l : at + length (signed_text n) ≤ length d) where
    pub sign_room : n.negative ≡ true → at < length d
    sign_room t = let h = rw (text_neg t) at l in omega arith

    pub digits-room : n.negative ≡ true → (e : List ℕ) → e ≡ paste at (45 ∷ []) d → at + 1 + length (decimal n.magnitude) ≤ length e
    digits-room t e q = let h = rw (text_neg t) at l in rw q (omega (arith, length-paste at (45 ∷ []) d (omega arith)))

    pub whole_room : n.negative ≡ false → at + length (decimal n.magnitude) ≤ length d
    whole_room t = let h = rw (text_pos t) at l in omega arith

    pub signed_put : n.negative ≡ true → (e s : List ℕ) → e ≡ paste at (45 ∷ []) d → s ≡ paste (at + 1) (decimal n.magnitude) e → s ≡ paste at (signed_text n) d
    signed_put t e s q u =
        let h = rw (text_neg t) at l in
        rw (text_neg t) (paste-then at (at + 1) (45 ∷ []) (decimal n.magnitude) d q u (omega arith) (omega arith))

    pub whole-put : n.negative ≡ false → (s : List ℕ) → s ≡ paste at (decimal n.magnitude) d → s ≡ paste at (signed_text n) d
    whole-put t s u = rw (text_pos t) u

    pub signed_end : n.negative ≡ true → (k : ℕ) → k ≡ at + 1 + length (decimal n.magnitude) → k ≡ at + length (signed_text n)
    signed_end t k q = rw (text_neg t) (omega arith)

    pub whole-end : n.negative ≡ false → (k : ℕ) → k ≡ at + length (decimal n.magnitude) → k ≡ at + length (signed_text n)
    whole-end t k q = rw (text_pos t) q

pub ruleset signing = (length_neg, length_pos, sign_room, digits-room, whole_room, signed_put, whole-put, signed_end, whole-end, rules)

-- ---- from signed numbers; an i64 that is handed on is read back from its bits, `back z`

abbrev pub back : ℤ → ℤ
back z = to_z w64 (of_z w64 z)

negative_is : (z : ℤ) → is_negative z ≡ negative z
unfolding negative
negative_is (pos n) = le-ltb n 0 (omega arith)
negative_is (negsuc n) = refl

pub signed_is : (z : ℤ) {r : Bool} {n : ℕ} → SFits w64 z → r ≡ is_negative (back z) → n ≡ unsigned_abs (back z)
    → ◌≡◌ {A = Signed} (record { negative = r; magnitude = n }) (sign_parts z)
unfolding sign_parts
signed_is z {r} {n} f p q =
    let p' : r ≡ negative z = rw (to_z-of_z f) at p ∙ negative_is z in
    let q' : n ≡ unsigned_abs z = rw (to_z-of_z f) at q in
    λ i. record { negative = p' i; magnitude = q' i }
