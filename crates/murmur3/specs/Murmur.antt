-- MurmurHash3_x86_128 of a key of 8 bytes, step by step as the public algorithm has it, in arithmetic modulo 2^32.
-- Such a key has no whole block of 16 bytes: all of it is the tail, bytes 0 to 3 in k1 and bytes 4 to 7 in k2.
use Rattle.std.specs.Prelude.{ℕ, ◌+◌, ◌-◌, ◌*◌, ◌/◌, ◌%◌, ◌^◌, List, ◌++◌, bit_or, bit_xor}
use Rattle.endian.specs.Little.{le, le_at}

-- sums, products and rotations of 32-bit numbers
abbrev pub add32 : ℕ → ℕ → ℕ
add32 a b = (a + b) % 2 ^ 32

-- RULES S4
abbrev pub mul32 : ℕ → ℕ → ℕ
mul32 a b = (a * b) % 2 ^ 32

abbrev pub rotl32 : ℕ → ℕ → ℕ
rotl32 x r = bit_or ((x * 2 ^ r) % 2 ^ 32) (x / 2 ^ (32 - r))

-- h ^= h >> r
abbrev pub shift_xor : ℕ → ℕ → ℕ
shift_xor h r = bit_xor h (h / 2 ^ r)

-- the public constants; c4 goes with bytes 8 to 15, which a key of 8 bytes lacks
abbrev pub c1 : ℕ
c1 = 0x239b961b

abbrev pub c2 : ℕ
c2 = 0xab0e9789

abbrev pub c3 : ℕ
c3 = 0x38b34ae5

-- the length of the key
abbrev pub len : ℕ
len = 8

-- fmix32: h ^= h >> 16; h *= 0x85ebca6b; h ^= h >> 13; h *= 0xc2b2ae35; h ^= h >> 16
unfoldable pub fmix32 : ℕ → ℕ
fmix32 h0 =
    let h1 = mul32 (shift_xor h0 16) 0x85ebca6b in
    let h2 = mul32 (shift_xor h1 13) 0xc2b2ae35 in
    shift_xor h2 16

-- the four words that the algorithm carries along
pub record State : Type 0 where
  pub h1 : ℕ
  pub h2 : ℕ
  pub h3 : ℕ
  pub h4 : ℕ

-- each of the four starts at the seed
abbrev pub seeded : ℕ → State
seeded seed = record { h1 = seed; h2 = seed; h3 = seed; h4 = seed }

-- k1 *= c1; k1 = ROTL32(k1,15); k1 *= c2
abbrev pub tail1 : ℕ → ℕ
tail1 k1 = mul32 (rotl32 (mul32 k1 c1) 15) c2

-- k2 *= c2; k2 = ROTL32(k2,16); k2 *= c3
abbrev pub tail2 : ℕ → ℕ
tail2 k2 = mul32 (rotl32 (mul32 k2 c2) 16) c3

-- the tail of a key of 8 bytes: h2 ^= k2, then h1 ^= k1
abbrev pub tail : List ℕ → State → State
tail key s = record {
  h1 = bit_xor s.h1 (tail1 (le_at 4 key 0));
  h2 = bit_xor s.h2 (tail2 (le_at 4 key 4));
  h3 = s.h3;
  h4 = s.h4;
}

-- h1 ^= len; h2 ^= len; h3 ^= len; h4 ^= len
abbrev pub lengthened : State → State
lengthened s = record {
  h1 = bit_xor s.h1 len;
  h2 = bit_xor s.h2 len;
  h3 = bit_xor s.h3 len;
  h4 = bit_xor s.h4 len;
}

-- h1 += h2; h1 += h3; h1 += h4; h2 += h1; h3 += h1; h4 += h1
unfoldable pub summed : State → State
summed s =
    let all = add32 (add32 (add32 s.h1 s.h2) s.h3) s.h4 in
    record { h1 = all; h2 = add32 s.h2 all; h3 = add32 s.h3 all; h4 = add32 s.h4 all }

-- fmix32 of each
abbrev pub mixed : State → State
mixed s = record { h1 = fmix32 s.h1; h2 = fmix32 s.h2; h3 = fmix32 s.h3; h4 = fmix32 s.h4 }

-- the finalisation after the length, and the 16 bytes of the hash
unfoldable pub finished : State → List ℕ
finished s =
    let e = summed (mixed (summed s)) in
    le 4 e.h1 ++ (le 4 e.h2 ++ (le 4 e.h3 ++ le 4 e.h4))

-- MurmurHash3_x86_128 of a key of 8 bytes (RULES S3)
unfoldable pub murmur3 : ℕ → List ℕ → List ℕ
murmur3 seed key = finished (lengthened (tail key (seeded seed)))

-- ---- the archive's hash

-- RULES S3
abbrev pub seed : ℕ
seed = 0

-- murmur hashes a number as 8 little-endian bytes; the first 8 bytes of the result, little-endian, are the hash (RULES S3)
unfoldable pub murmur_hash : ℕ → ℕ
murmur_hash n = le_at 8 (murmur3 seed (le len n)) 0
