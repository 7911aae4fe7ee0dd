-- Laws of spread bits.
use Prim.Native.Nat.{ℕ, zero, suc, ◌+◌, ◌-◌, ◌*◌, ◌/◌, ◌%◌, ◌^◌, ◌≤◌, ◌<◌}
use mathlib.Core.Path.{◌≡◌, refl, sym, ap, ◌∙◌}
use native.Mathlib.Omega.{arith}
use native.Mathlib.Nat.{mod-lt, div-eq_of_lt, add-suc, add-zero, zero-add}
use lib.Pow.{pow-add, pow_pos, shr-shr, field, mod-mod-pow, high}
use Rattle.morton.specs.axis.Axis.{bit_of}
use Rattle.morton.specs.spread.Spread.{spread, Placed}

bit-lt : (v i : ℕ) → bit_of v i < 2
unfolding bit_of
bit-lt v i = mod-lt (v / 2 ^ i) (omega arith)

bit-zero : (n : ℕ) → bit_of 0 n ≡ 0
unfolding bit_of
bit-zero n = let e : 0 / 2 ^ n ≡ 0 = div-eq_of_lt (pow_pos n) in rw e

-- bit m + n of v is bit n of v without its lowest m bits
pub bit_past : (v m n : ℕ) → bit_of v (m + n) ≡ bit_of (v / 2 ^ m) n
unfolding bit_of
bit_past v m n = rw (shr-shr v m n)

-- the lowest bits do not know of the others
bit_of_low : (v k n : ℕ) → bit_of (v % 2 ^ (suc k + n)) n ≡ bit_of v n
unfolding bit_of
bit_of_low v k n =
    let e : suc k ≡ k + 1 = omega arith in
    ap (λ (a : ℕ). a % 2) (field v (suc k) n) ∙ ap (λ (a : ℕ). v / 2 ^ n % 2 ^ a % 2) e ∙ mod-mod-pow (v / 2 ^ n) k 1

place-past : (m n : ℕ) → 2 ^ (3 * (m + n)) ≡ 2 ^ (3 * m) * 2 ^ (3 * n)
place-past m n =
    let e : 3 * (m + n) ≡ 3 * m + 3 * n = omega arith in
    rw (e, pow-add 2 (3 * m) (3 * n))

-- m bits, and n more past them
pub spread-add : (m n v : ℕ) → spread (m + n) v ≡ spread m v + 2 ^ (3 * m) * spread n (v / 2 ^ m)
unfolding spread
spread-add m zero v = rw add-zero (omega arith)
spread-add m (suc n) v = rw (add-suc, spread-add m n v, bit_past v m n, place-past m n) (omega arith)

spread-zero : (n : ℕ) → spread n 0 ≡ 0
unfolding spread
spread-zero zero = refl
spread-zero (suc n) = rw (spread-zero n, bit-zero n) (omega arith)

pub spread-mod : (n k v : ℕ) → spread n (v % 2 ^ (k + n)) ≡ spread n v
unfolding spread
spread-mod zero k v = refl
spread-mod (suc n) k v =
    let e : k + suc n ≡ suc k + n = omega arith in
    rw (e, spread-mod n (suc k) v, bit_of_low v k n)

-- only the n lowest bits count, and once the others are gone more bits may be taken
pub spread-low : (n k v : ℕ) → spread (n + k) (v % 2 ^ n) ≡ spread n v
spread-low n k v = rw (spread-add n k (v % 2 ^ n), rw zero-add at (spread-mod n 0 v), div-eq_of_lt (mod-lt v (pow_pos n)), spread-zero k) (omega arith)

one_bit_lem : (w : ℕ) → spread 1 w ≡ bit_of w 0
unfolding spread
one_bit_lem w = omega arith

-- the first bit of v / 2 ^ i is bit i of v
pub spread-first : (n v i : ℕ) → spread (suc n) (v / 2 ^ i) ≡ bit_of v i + 8 * spread n (v / 2 ^ suc i)
spread-first n v i =
    let e : suc n ≡ 1 + n = omega arith in
    let f : i + 0 ≡ i = omega arith in
    let h : suc i ≡ i + 1 = omega arith in
    rw (e, spread-add 1 n (v / 2 ^ i), h, ← shr-shr v i 1) (ap (λ (a : ℕ). a + 8 * spread n (v / 2 ^ i / 2 ^ 1)) (one_bit_lem (v / 2 ^ i) ∙ sym (bit_past v i 0) ∙ ap (bit_of v) f))

-- one place of each three, and no carry
bit-most : (b p : ℕ) → b < 2 → 7 * (b * p) ≤ 7 * p
bit-most zero p h = omega arith
bit-most (suc zero) p h = omega arith
bit-most (suc (suc b)) p h = absurd (omega arith)

pub spread-most : (n v : ℕ) → 7 * spread n v < 2 ^ (3 * n)
unfolding spread
spread-most zero v = omega arith
spread-most (suc n) v =
    let h = spread-most n v in
    let b = bit-most (bit_of v n) (2 ^ (3 * n)) (bit-lt v n) in
    let k : 3 * suc n ≡ 3 + 3 * n = omega arith in
    rw (k, pow-add 2 3 (3 * n)) (omega arith)

-- ---- the rule place by place: bit k of v is at place 3 × k, the two places after it are empty, and nothing is above
from_place : (k m v : ℕ) → spread (k + suc m) v / 2 ^ (3 * k) ≡ bit_of v k + 8 * spread m (v / 2 ^ suc k)
from_place k m v =
    let l : spread k v < 2 ^ (3 * k) = omega (arith, spread-most k v) in
    let e : spread (k + suc m) v ≡ (bit_of v k + 8 * spread m (v / 2 ^ suc k)) * 2 ^ (3 * k) + spread k v =
    rw (spread-add k (suc m) v, spread-first m v k) (omega arith) in
    rw e (high (bit_of v k + 8 * spread m (v / 2 ^ suc k)) (3 * k) l)

three-places : (b t : ℕ) → b < 2 → (bit_of (b + 8 * t) 0 ≡ b) × (bit_of (b + 8 * t) 1 ≡ 0) × (bit_of (b + 8 * t) 2 ≡ 0)
unfolding bit_of
three-places b t h = (omega arith, omega arith, omega arith)

pub placed : (n v k : ℕ) → k < n → Placed (spread n v) v k
placed n v k h =
    let e : n ≡ k + suc (n - suc k) = omega arith in
    let p = three-places (bit_of v k) (spread (n - suc k) (v / 2 ^ suc k)) (bit-lt v k) in
    let f = ap (λ (a : ℕ). spread a v / 2 ^ (3 * k)) e ∙ from_place k (n - suc k) v in
    record {
      here = bit_past (spread n v) (3 * k) 0 ∙ rw f p.0;
      next = bit_past (spread n v) (3 * k) 1 ∙ rw f p.1;
      last = bit_past (spread n v) (3 * k) 2 ∙ rw f p.2;
    }

pub no_more : (n v : ℕ) → spread n v < 2 ^ (3 * n)
no_more n v = omega (arith, spread-most n v)
