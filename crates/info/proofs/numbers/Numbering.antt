-- Numbers: what the functions that read them need.
use Prim.Native.Nat.{ℕ, ◌+◌, ◌-◌, ◌*◌, ◌^◌, ◌≤◌, ◌<◌}
use mathlib.Core.Path.{◌≡◌, refl, sym, ap, ◌∙◌}
use mathlib.Core.Bool.{Bool, true, false}
use mathlib.Core.List.{List, [], ◌∷◌}
use native.Mathlib.Omega.{arith}
use native.Mathlib.Numerals.{add-one}
use borrow.Author.Tests.{lt-ltb, le-ltb, ltb-true, ltb-false, leb-true}
use lib.Dec.{ltb, leb}
use lib.ListN.{length, get_or, get_or-eq_default, drop, drop_of_length-le}
use lib.Seq.{drop-cons}
use Rattle.refusal.specs.Choice.{pick}
use Rattle.refusal.proofs.Tests.{both}
use Rattle.json_text.specs.tokens.Bytes.{is_digit, inside}
use Rattle.json_text.specs.tokens.Parts.{digits}
use Rattle.json_text.proofs.tokens.Laws.{in_text, digit_zero, span-on, span_stop}
use Rattle.std.specs.Prelude.{Option, Some, None}
use Rattle.info.specs.numbers.Numbers.{decimal_on, decimal_at, goes_on_of, in32, digits_from_of}

-- ---- digits

pub digit_range : (b : ℕ) → is_digit b ≡ true → (48 ≤ b) × (b ≤ 57)
unfolding is_digit inside
digit_range b e = let q = both (leb 0x30 b) (leb b 0x39) e in (leb-true 0x30 b q.0, leb-true b 0x39 q.1)

pub digit_here : (s : List ℕ) (i : ℕ) → is_digit (get_or s i 0) ≡ true → i < length s
digit_here s i e = in_text is_digit s i digit_zero e

pub decimal-on : (s : List ℕ) (i v : ℕ) → is_digit (get_or s i 0) ≡ true → decimal_on v (drop i s) ≡ decimal_on (v * 10 + (get_or s i 0 - 48)) (drop (i + 1) s)
unfolding decimal_on
decimal-on s i v e = let h : i < length s = digit_here s i e in rw (drop-cons s i 0, e, add-one i)

pub decimal_stop : (s : List ℕ) (i v : ℕ) → is_digit (get_or s i 0) ≡ false → decimal_on v (drop i s) ≡ v
unfolding decimal_on
decimal_stop s i v e = go (ltb i (length s)) refl
  where
    go : (t : Bool) → ltb i (length s) ≡ t → decimal_on v (drop i s) ≡ v
    go true q = let h : i < length s = ltb-true i (length s) q in rw (drop-cons s i 0, e)
    go false q = let h : length s ≤ i = ltb-false i (length s) q in rw (drop_of_length-le s h)

decimal-least : (l : List ℕ) (v : ℕ) → v ≤ decimal_on v l
unfolding decimal_on
decimal-least [] v = omega arith
decimal-least (b ∷ l) v = go (is_digit b) (decimal-least l (v * 10 + (b - 48)))
  where
    go : (t : Bool) → v * 10 + (b - 48) ≤ decimal_on (v * 10 + (b - 48)) l → v ≤ pick t (decimal_on (v * 10 + (b - 48)) l) v
    go true h = omega arith
    go false h = omega arith

-- ---- the digits from p on are read up to i, and v is their number

pub record Reading (s : List ℕ) (p v i : ℕ) : Type 0 where
  pub small : v < 2 ^ 32
  pub number : decimal_at s p ≡ decimal_on v (drop i s)
  pub ending : digits s p ≡ digits s i

pub read-start : (s : List ℕ) (p : ℕ) → Reading s p 0 p
unfolding decimal_at
read-start s p = record { small = omega arith; number = refl; ending = refl }

either_none : (x : Bool) → ◌≡◌ {A = Option ℕ} (pick x None None) None
either_none true = refl
either_none false = refl

module _ {s : List ℕ} {p v i : ℕ} (k : Reading s p v i) where
  -- a byte that is no digit ends the number
  module _ (stop : is_digit (get_or s i 0) ≡ false) where
    byte_there : get_or s (digits s p) 0 ≡ get_or s i 0
    byte_there = ap (λ (j : ℕ). get_or s j 0) (k.ending ∙ span_stop is_digit s i stop)

    stops : {g : Bool} → g ≡ goes_on_of (get_or s i 0) → pick g None (Some v) ≡ digits_from_of s p
    unfolding digits_from_of in32
    stops eg = rw (byte_there, ← eg, k.number ∙ decimal_stop s i v stop, lt-ltb v (2 ^ 32) k.small)

  -- the text ends
  pub read-past : length s ≤ i → Some v ≡ digits_from_of s p
  unfolding is_digit inside goes_on_of
  read-past h = let z : get_or s i 0 ≡ 0 = get_or-eq_default s 0 h in stops (rw z) {g = false} (rw z)

  module _ {t : Bool} (et : t ≡ is_digit (get_or s i 0)) where
    module _ (n : t ≡ false) {g : Bool} (eg : g ≡ goes_on_of (get_or s i 0)) where
      ended : pick g None (Some v) ≡ digits_from_of s p
      ended = stops (sym et ∙ n) eg

      pub read_goes : g ≡ true → None ≡ digits_from_of s p
      read_goes e = rw e at ended

      pub read-ends : g ≡ false → Some v ≡ digits_from_of s p
      read-ends e = rw e at ended

    module _ (n : t ≡ true) where
      on : is_digit (get_or s i 0) ≡ true
      on = sym et ∙ n

      pub is_digit_b : is_digit (get_or s i 0) ≡ true
      is_digit_b = on

      number-on : {w : ℕ} → w ≡ v * 10 + (get_or s i 0 - 48) → decimal_at s p ≡ decimal_on w (drop (i + 1) s)
      number-on e = k.number ∙ decimal-on s i v on ∙ rw e

      wide : 2 ^ 32 ≤ v * 10 + (get_or s i 0 - 48) → None ≡ digits_from_of s p
      unfolding digits_from_of in32
      wide h =
          let l : 2 ^ 32 ≤ decimal_at s p = rw (number-on refl) (let z = decimal-least (drop (i + 1) s) (v * 10 + (get_or s i 0 - 48)) in omega arith) in
          sym (rw (le-ltb (decimal_at s p) (2 ^ 32) l) (either_none (goes_on_of (get_or s (digits s p) 0))))

      pub product-wide : {r : Option ℕ} → r ≡ None → (v * 10 < 2 ^ 32 → ⊥) → r ≡ digits_from_of s p
      product-wide e h = e ∙ wide (omega (arith, h))

      module _ {m d : ℕ} (em : m ≡ v * 10) (ed : d ≡ get_or s i 0 - 48) where
        pub sum-wide : {r : Option ℕ} → r ≡ None → (m + d < 2 ^ 32 → ⊥) → r ≡ digits_from_of s p
        sum-wide e h = e ∙ wide (omega (arith, h, em, ed))

        pub read-on : {w : ℕ} → w ≡ m + d → w < 2 ^ 32 → Reading s p w (i + 1)
        read-on e h = record { small = h; number = number-on (omega (arith, e, em, ed)); ending = k.ending ∙ span-on is_digit s i digit_zero on }

pub digit_sub : (b : ℕ) → is_digit b ≡ true → 48 ≤ b
digit_sub b e = (digit_range b e).0

pub digit_small : (b : ℕ) → is_digit b ≡ true → b - 48 < 10
digit_small b e = let q = digit_range b e in omega (arith, q.0, q.1)
