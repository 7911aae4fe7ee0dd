-- Laws of the hash: the two words of a key, the first 8 bytes of the result, the product of two words.
use Rattle.std.proofs.Common.{◌≡◌, ℕ, ◌+◌, ◌*◌, ◌/◌, ◌%◌, ◌^◌, ◌<◌, List, ◌++◌, ◌∙◌, ap₂, lt_of_le_of_lt, le_of_lt, mul_assoc, add-mul, mul-le-mul_left, mul-lt-mul_of_pos_right, mul-add, mul_left_comm, arith, pow_pos, pow-add, w32, w64, Fits}
use mathlib.Core.Path.{subst⁻¹}
use lib.Bits.{bit_xor}
use Rattle.endian.specs.Little.{le, le_at}
use Rattle.murmur3.specs.Murmur.{State, tail1, tail2, tail, seeded, lengthened, summed, mixed, finished, murmur3, seed, murmur_hash, add32, mul32, rotl32, shift_xor, fmix32, c1, c2, c3}

-- k1 is the key's low half, k2 its high half
k1_low : (n : ℕ) → le_at 4 (le 8 n) 0 ≡ n % 2 ^ 32
unfolding le le_at
k1_low n = omega arith

k2_high : (n : ℕ) → n < 2 ^ 64 → le_at 4 (le 8 n) 4 ≡ n / 2 ^ 32
unfolding le le_at
k2_high n h = omega arith

h1-below : (s : State) → (summed s).h1 < 2 ^ 32
unfolding summed
h1-below s = omega arith

h2-below : (s : State) → (summed s).h2 < 2 ^ 32
unfolding summed
h2-below s = omega arith

-- the number that two words and more begin with
first-words : (a b : ℕ) (rest : List ℕ) → a < 2 ^ 32 → b < 2 ^ 32 → le_at 8 (le 4 a ++ (le 4 b ++ rest)) 0 ≡ a + 2 ^ 32 * b
unfolding le le_at
first-words a b rest ha hb = omega arith

-- the number that the finished state begins with
pub finished-words : (s : State) → le_at 8 (finished s) 0 ≡ (summed (mixed (summed s))).h1 + 2 ^ 32 * (summed (mixed (summed s))).h2
unfolding finished
finished-words s = first-words (summed (mixed (summed s))).h1 (summed (mixed (summed s))).h2 _ (h1-below (mixed (summed s))) (h2-below (mixed (summed s)))

-- the hash, from the two words of the number
pub murmur_words : {n a b r : ℕ} → Fits w64 n → a ≡ tail1 (n % 2 ^ 32) → b ≡ tail2 (n / 2 ^ 32) →
    r ≡ le_at 8 (finished (lengthened (record { h1 = bit_xor seed a; h2 = bit_xor seed b; h3 = seed; h4 = seed }))) 0 → r ≡ murmur_hash n
unfolding murmur_hash murmur3
murmur_words {n} f p q e = rw (k1_low n, k2_high n f.fits, ← p, ← q) e

-- ---- the steps, each from the results of its calls

pub mixed_word : (h : ℕ) {a b : ℕ} → b ≡ mul32 (shift_xor a 13) 0xc2b2ae35 → a ≡ mul32 (shift_xor h 16) 0x85ebca6b → shift_xor b 16 ≡ fmix32 h
unfolding fmix32
mixed_word h p q = rw (p, q)

pub tail1_made : (k : ℕ) {a b r : ℕ} → r ≡ mul32 b c2 → b ≡ rotl32 a 15 → a ≡ mul32 k c1 → r ≡ tail1 k
tail1_made k p q s = rw (p, q, s)

pub tail2_made : (k : ℕ) {a b r : ℕ} → r ≡ mul32 b c3 → b ≡ rotl32 a 16 → a ≡ mul32 k c2 → r ≡ tail2 k
tail2_made k p q s = rw (p, q, s)

pub finish_made : (h1 h2 h3 h4 : ℕ) {all m1 m2 m3 m4 first r : ℕ} → r ≡ first + 2 ^ 32 * add32 m2 first
    → first ≡ add32 (add32 (add32 m1 m2) m3) m4 → m1 ≡ fmix32 all → m2 ≡ fmix32 (add32 h2 all) → m3 ≡ fmix32 (add32 h3 all) → m4 ≡ fmix32 (add32 h4 all)
    → all ≡ add32 (add32 (add32 h1 h2) h3) h4
    → r ≡ le_at 8 (finished (record { h1 = h1; h2 = h2; h3 = h3; h4 = h4 })) 0
unfolding summed
finish_made h1 h2 h3 h4 e g p1 p2 p3 p4 a =
    rw (finished-words (record { h1 = h1; h2 = h2; h3 = h3; h4 = h4 }), e, g, p1, p2, p3, p4, a)

-- ---- products

product-below : (k : ℕ) {a b : ℕ} → a < 2 ^ k → b < 2 ^ k → a * b < 2 ^ (k + k)
product-below k {a} {b} ha hb =
    subst⁻¹ (λ (n : ℕ). a * b < n) (pow-add 2 k k)
    (lt_of_le_of_lt (mul-le-mul_left a (le_of_lt hb)) (mul-lt-mul_of_pos_right ha (pow_pos k)))

-- the product of two halves is a word
pub product_fits : {a b : ℕ} → a < 65536 → b < 65536 → Fits w32 (a * b)
product_fits p q = record { fits = product-below 16 p q }

-- the product of two words, by their halves
by-halves : (p q r s : ℕ) → (p + 65536 * q) * (r + 65536 * s) ≡ p * r + 65536 * (q * r + p * s) + 2 ^ 32 * (q * s)
by-halves p q r s =
    omega (
      arith,
      add-mul p (65536 * q) (r + 65536 * s),
      mul-add p r (65536 * s),
      mul-add (65536 * q) r (65536 * s),
      mul_assoc 65536 q r,
      mul_assoc 65536 q (65536 * s),
      mul_left_comm p 65536 s,
      mul_left_comm q 65536 s,
    )

-- the low product and the two middle ones are what is left of it in a word
pub product_halves : {a b x y z : ℕ} → Fits w32 a → Fits w32 b → x ≡ (a % 65536) * (b % 65536) → y ≡ (a / 2 ^ 16) * (b % 65536) → z ≡ (a % 65536) * (b / 2 ^ 16) →
    add32 x ((add32 y z * 2 ^ 16) % 2 ^ 32) ≡ mul32 a b
product_halves {a} {b} {x} {y} {z} f g p q s =
    let h : a * b ≡ x + 65536 * (y + z) + 2 ^ 32 * ((a / 2 ^ 16) * (b / 2 ^ 16)) =
    rw (p, q, s) (ap₂ ◌*◌ (omega arith) (omega arith) ∙ by-halves (a % 65536) (a / 2 ^ 16) (b % 65536) (b / 2 ^ 16)) in
    omega arith

-- the hash is a number of 64 bits
pub murmur-below : (n : ℕ) → murmur_hash n < 2 ^ 64
unfolding murmur_hash murmur3
murmur-below n =
    let s = lengthened (tail (le 8 n) (seeded seed)) in
    rw (finished-words s) (omega (arith, h1-below (mixed (summed s)), h2-below (mixed (summed s))))
