-- Laws of the bits of a number: a run of bits, what is set by or, and how many are not set.
use Prim.Native.Nat.{ℕ, zero, suc, ◌+◌, ◌*◌, ◌-◌, ◌/◌, ◌%◌, ◌^◌, ◌≤◌, ◌<◌, max}
use mathlib.Core.Path.{◌≡◌, refl, sym, ap, ◌∙◌}
use mathlib.Core.Bool.{false, ◌||◌}
use native.Mathlib.Omega.{arith}
use native.Mathlib.Nat.{pow-suc, pow-succ', div-div-eq-div-mul}
use lib.Bits.{bit_or, or_step}
use lib.Count.{ones, ones_step}
use lib.Dec.{eqb, leb-zero, leb-suc-suc}
use lib.Pow.{pow_pos, pow_mono, shl_exact}
use Rattle.refusal.specs.Choice.{pick}
use Rattle.endian.specs.Range.{sum_to}
use Rattle.bitmap.specs.Positions.{within, miss, misses}
use Rattle.bitmap.specs.Bits.{bit_of}
use Rattle.bitmap.proofs.Within.{within-yes, within-before, within-past}
use Rattle.bitmap.proofs.Counts.{sum_head, sum_same}

pub bit-zero : (i : ℕ) → bit_of 0 i ≡ false
unfolding bit_of
bit-zero zero = refl
bit-zero (suc i) = bit-zero i

-- ---- or

or_digit : (x y : ℕ) → x < 2 → y < 2 → eqb (max x y) 1 ≡ eqb x 1 || eqb y 1
or_digit zero zero h k = refl
or_digit zero (suc zero) h k = refl
or_digit zero (suc (suc y)) h k = absurd (omega arith)
or_digit (suc zero) zero h k = refl
or_digit (suc zero) (suc zero) h k = refl
or_digit (suc zero) (suc (suc y)) h k = absurd (omega arith)
or_digit (suc (suc x)) y h k = absurd (omega arith)

or_half : (a b : ℕ) → bit_or a b / 2 ≡ bit_or (a / 2) (b / 2)
or_half a b = omega (arith, or_step a b)

or-low : (a b : ℕ) → bit_or a b % 2 ≡ max (a % 2) (b % 2)
or-low a b = omega (arith, or_step a b)

pub bit-or : (a b i : ℕ) → bit_of (bit_or a b) i ≡ bit_of a i || bit_of b i
unfolding bit_of
bit-or a b zero = ap (λ (x : ℕ). eqb x 1) (or-low a b) ∙ or_digit (a % 2) (b % 2) (omega arith) (omega arith)
bit-or a b (suc i) = ap (λ (x : ℕ). bit_of x i) (or_half a b) ∙ bit-or (a / 2) (b / 2) i

-- ---- the bits of 2^y - 2^x are those from x on and before y

run_next : (x y i : ℕ) → within (suc x) (suc y) (suc i) ≡ within x y i
unfolding within
run_next x y i = rw (leb-suc-suc, leb-suc-suc)

run_on : (y i : ℕ) → within 0 (suc y) (suc i) ≡ within 0 y i
unfolding within
run_on y i = rw (leb-zero, leb-zero, leb-suc-suc)

pub bit_run : (x y i v : ℕ) → v + 2 ^ x ≡ 2 ^ y → bit_of v i ≡ within x y i
unfolding bit_of
bit_run zero zero i v e = ap (λ (n : ℕ). bit_of n i) (omega arith) ∙ bit-zero i ∙ sym (within-past 0 0 i (omega arith))
bit_run (suc x) zero i v e = absurd (omega (arith, pow-suc 2 x, pow_pos x))
bit_run zero (suc y) zero v e =
    let o : v % 2 ≡ 1 = omega (arith, pow-suc 2 y) in
    rw o (sym (within-yes 0 (suc y) 0 (omega arith) (omega arith)))
bit_run zero (suc y) (suc i) v e = bit_run zero y i (v / 2) (omega (arith, pow-suc 2 y)) ∙ sym (run_on y i)
bit_run (suc x) (suc y) zero v e =
    let o : v % 2 ≡ 0 = omega (arith, pow-suc 2 y, pow-suc 2 x) in
    rw o (sym (within-before (suc x) (suc y) 0 (omega arith)))
bit_run (suc x) (suc y) (suc i) v e = bit_run x y i (v / 2) (omega (arith, pow-suc 2 y, pow-suc 2 x)) ∙ sym (run_next x y i)

-- ---- reading a bit by a shift

pub bit_shift : (i n : ℕ) → bit_of n i ≡ eqb (n / 2 ^ i % 2) 1
unfolding bit_of
bit_shift zero n = let e : n / 2 ^ 0 ≡ n = omega arith in rw e
bit_shift (suc i) n = bit_shift i (n / 2) ∙ rw (pow-succ', ← div-div-eq-div-mul)

-- ---- bits that are not set

digit_miss : (n : ℕ) → miss (bit_of n) 0 + n % 2 ≡ 1
unfolding bit_of miss
digit_miss n = go (n % 2) (omega arith)
  where
    go : (x : ℕ) → x < 2 → pick (eqb x 1) 0 1 + x ≡ 1
    go zero h = refl
    go (suc zero) h = refl
    go (suc (suc x)) h = absurd (omega arith)

next-miss : (n i : ℕ) → miss (bit_of n) (suc i) ≡ miss (bit_of (n / 2)) i
unfolding bit_of miss
next-miss n i = refl

ones_zero : ones 0 ≡ 0
unfolding ones
ones_zero = refl

-- of a number below 2^k, they and those that are set are k
pub zeros_ones : (k n : ℕ) → n < 2 ^ k → misses (bit_of n) k + ones n ≡ k
unfolding sum_to
zeros_ones zero n h = let z : n ≡ 0 = omega arith in omega (arith, ap ones z, ones_zero)
zeros_ones (suc k) n h =
    let e = zeros_ones k (n / 2) (omega (arith, pow-suc 2 k)) in
    let s = sum_head (miss (bit_of n)) k in
    let t = sum_same (λ i. miss (bit_of n) (suc i)) (miss (bit_of (n / 2))) k (λ i l. next-miss n i) in
    omega (arith, digit_miss n, ones_step n)

-- they are the bits that are set where each is turned over
pub zeros_turned : (k n : ℕ) → n < 2 ^ k → ones (2 ^ k - 1 - n) ≡ misses (bit_of n) k
unfolding sum_to
zeros_turned zero n h = let z : 2 ^ 0 - 1 - n ≡ 0 = omega arith in ap ones z ∙ ones_zero
zeros_turned (suc k) n h =
    let e = zeros_turned k (n / 2) (omega (arith, pow-suc 2 k)) in
    let half : (2 ^ suc k - 1 - n) / 2 ≡ 2 ^ k - 1 - n / 2 = omega (arith, pow-suc 2 k) in
    let low : (2 ^ suc k - 1 - n) % 2 + n % 2 ≡ 1 = omega (arith, pow-suc 2 k) in
    let s = sum_head (miss (bit_of n)) k in
    let t = sum_same (λ i. miss (bit_of n) (suc i)) (miss (bit_of (n / 2))) k (λ i l. next-miss n i) in
    omega (arith, digit_miss n, ones_step (2 ^ suc k - 1 - n), ap ones half)

-- ---- the words that code makes

pub low-all : {x : ℕ} → x ≡ 64 → 18446744073709551615 ≡ 2 ^ x - 1
low-all e = rw e

one_shifted : (x : ℕ) → x < 64 → (1 * 2 ^ x) % 2 ^ 64 ≡ 2 ^ x
one_shifted x l = shl_exact 1 x 64 (omega arith) (omega arith) ∙ omega arith

pub shifted_one : (x : ℕ) → (x ≡ 64 → ⊥) → x ≤ 64 → 1 ≤ (1 * 2 ^ x) % 2 ^ 64
shifted_one x n l = omega (arith, one_shifted x (omega arith), pow_pos x)

pub low-some : (x : ℕ) → (x ≡ 64 → ⊥) → x ≤ 64 → (1 * 2 ^ x) % 2 ^ 64 - 1 ≡ 2 ^ x - 1
low-some x n l = ap (λ (k : ℕ). k - 1) (one_shifted x (omega arith))

pub run_fits : {x y u v : ℕ} → x ≤ y → u ≡ 2 ^ x - 1 → v ≡ 2 ^ y - 1 → u ≤ v
run_fits {x} {y} l p q = omega (arith, pow_mono l)

-- the run that two of them make
pub run_of : {x y u v : ℕ} → x ≤ y → u ≡ 2 ^ x - 1 → v ≡ 2 ^ y - 1 → v - u + 2 ^ x ≡ 2 ^ y
run_of {x} {y} l p q = omega (arith, pow_mono l, pow_pos x, pow_pos y)
