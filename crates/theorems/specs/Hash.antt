-- What order 3 promises (RULES S4): the hash without wide products.
use Rattle.std.specs.Prelude.{ℕ, ◌*◌, ◌/◌, ◌%◌, ◌^◌, ◌<◌, ◌≡◌, List, ◌++◌}
use Rattle.std.specs.Int.Bits.{bit_xor}
use Rattle.endian.specs.Little.{le, le_at}
use Rattle.murmur3.specs.Murmur.{State, add32, mul32, rotl32, shift_xor, c1, c2, c3, len, seed, seeded, lengthened, summed, murmur_hash}

-- a multiplication of 16-bit halves: whatever it is given, its factors are below 65,536
abbrev pub narrow_product : ℕ → ℕ → ℕ
narrow_product a b = (a % 65536) * (b % 65536)

-- a 32-bit product from such ones, shifts and 32-bit sums
abbrev pub by_halves : ℕ → ℕ → ℕ
by_halves a b = add32 (narrow_product a b) ((add32 (narrow_product (a / 2 ^ 16) b) (narrow_product a (b / 2 ^ 16)) * 2 ^ 16) % 2 ^ 32)

-- ---- the hash, by any way to multiply

unfoldable pub fmix_by : (ℕ → ℕ → ℕ) → ℕ → ℕ
fmix_by mul h = shift_xor (mul (shift_xor (mul (shift_xor h 16) 0x85ebca6b) 13) 0xc2b2ae35) 16

unfoldable pub tail_by : (ℕ → ℕ → ℕ) → List ℕ → State → State
tail_by mul key s = record {
  h1 = bit_xor s.h1 (mul (rotl32 (mul (le_at 4 key 0) c1) 15) c2);
  h2 = bit_xor s.h2 (mul (rotl32 (mul (le_at 4 key 4) c2) 16) c3);
  h3 = s.h3;
  h4 = s.h4;
}

unfoldable pub finished_by : (ℕ → ℕ → ℕ) → State → List ℕ
finished_by mul s =
    let t = summed s in
    let e = summed (record { h1 = fmix_by mul t.h1; h2 = fmix_by mul t.h2; h3 = fmix_by mul t.h3; h4 = fmix_by mul t.h4 }) in
    le 4 e.h1 ++ (le 4 e.h2 ++ (le 4 e.h3 ++ le 4 e.h4))

unfoldable pub hash_by : (ℕ → ℕ → ℕ) → ℕ → ℕ
hash_by mul n = le_at 8 (finished_by mul (lengthened (tail_by mul (le len n) (seeded seed)))) 0

-- Order 3: "Work the 32-bit products in the hash from 16-bit halves: each multiplication in it is proved to take two factors below 65,536, in 32-bit numbers."
-- The code has one multiplication, `times` (crates/murmur3/src/lib.rt), whose contract requires it of both factors.
pub record Order3 : Type 0 where
  -- A product of two factors below 65,536 is a number of 32 bits,
  pub words : (a b : ℕ) → a < 65536 → b < 65536 → a * b < 2 ^ 32
  -- those of halves make the 32-bit product,
  pub product : (a b : ℕ) → by_halves a b ≡ mul32 a b
  -- and the hash worked with them is the hash. "No answer changes."
  pub hash : (n : ℕ) → hash_by by_halves n ≡ murmur_hash n
