-- What `&` and `|` make of two runs of bits.
use Prim.Native.Nat.{ℕ, ◌+◌, ◌-◌, ◌*◌, ◌/◌, ◌%◌, ◌^◌, min, max}
use mathlib.Core.Path.{◌≡◌, refl, sym, ap₂, ◌∙◌}
use native.Mathlib.Omega.{arith}
use lib.Arith.{bin_ind}
use lib.Pow.{split}
use lib.Bits.{bit_and, bit_or, and_step, or_step, and_self, and_le_l, and_shr, and_mod}

-- the bits from n on, and those below
pub and_parts : (a m n : ℕ) → bit_and a m ≡ bit_and (a / 2 ^ n) (m / 2 ^ n) * 2 ^ n + bit_and (a % 2 ^ n) (m % 2 ^ n)
and_parts a m n = sym (split (bit_and a m) n) ∙ ap₂ (λ (x y : ℕ). x * 2 ^ n + y) (and_shr a m n) (and_mod a m n)

-- the lowest bit, and the others
or-low : (a m : ℕ) → bit_or a m % 2 ≡ max (a % 2) (m % 2)
or-low a m = omega (arith, or_step a m)

or_half : (a m : ℕ) → bit_or a m / 2 ≡ bit_or (a / 2) (m / 2)
or_half a m = omega (arith, or_step a m)

-- o set in h
pub set_own : (h o : ℕ) → bit_and (bit_or h o) o ≡ o
set_own =
    bin_ind (λ (h : ℕ). (o : ℕ) → bit_and (bit_or h o) o ≡ o) and_self
    (λ h ih o. and_step (bit_or h o) o ∙ rw (or_half, or-low, ih) (omega arith))

pub set_other : (h o m : ℕ) → bit_and o m ≡ 0 → bit_and (bit_or h o) m ≡ bit_and h m
set_other =
    bin_ind (λ (h : ℕ). (o m : ℕ) → bit_and o m ≡ 0 → bit_and (bit_or h o) m ≡ bit_and h m) (λ o m e. e)
    (λ h ih o m e.
    let s = and_step o m in
    let f : bit_and (o / 2) (m / 2) ≡ 0 = omega arith in
    let g : min (o % 2) (m % 2) ≡ 0 = omega arith in
    let i = ih (o / 2) (m / 2) f in
    and_step (bit_or h o) m ∙ rw (or_half, or-low, i) (omega (arith, and_step h m)))

-- o cleared in l
clear_low : (l o : ℕ) → (l - bit_and l o) % 2 ≡ l % 2 - min (l % 2) (o % 2)
clear_low l o = omega (arith, and_step l o, and_le_l (l / 2) (o / 2))

clear_half : (l o : ℕ) → (l - bit_and l o) / 2 ≡ l / 2 - bit_and (l / 2) (o / 2)
clear_half l o = omega (arith, and_step l o, and_le_l (l / 2) (o / 2))

pub clear_own : (l o : ℕ) → bit_and (l - bit_and l o) o ≡ 0
clear_own =
    bin_ind (λ (l : ℕ). (o : ℕ) → bit_and (l - bit_and l o) o ≡ 0) (λ o. refl)
    (λ l ih o. and_step (l - bit_and l o) o ∙ rw (clear_half, clear_low, ih) (omega arith))

pub clear_other : (l o m : ℕ) → bit_and o m ≡ 0 → bit_and (l - bit_and l o) m ≡ bit_and l m
clear_other =
    bin_ind (λ (l : ℕ). (o m : ℕ) → bit_and o m ≡ 0 → bit_and (l - bit_and l o) m ≡ bit_and l m) (λ o m e. refl)
    (λ l ih o m e.
    let s = and_step o m in
    let f : bit_and (o / 2) (m / 2) ≡ 0 = omega arith in
    let g : min (o % 2) (m % 2) ≡ 0 = omega arith in
    let i = ih (o / 2) (m / 2) f in
    and_step (l - bit_and l o) m ∙ rw (clear_half, clear_low, i) (omega (arith, and_step l m)))
