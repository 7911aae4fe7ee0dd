-- The specification and the generator of the vectors.
use Rattle.std.specs.Prelude.{ℕ, ◌*◌, ◌/◌, ◌%◌, ◌^◌}
use Rattle.std.specs.Int.Bits.{bit_xor}
use Rattle.sharding.specs.declared.Sharding.{Sharding}
use Rattle.sharding.specs.Specification.{murmur, volume}

-- murmur after a preshift
abbrev pub murmur_after : ℕ → Sharding
murmur_after preshift = record { preshift = preshift; hash = murmur; minishard_bits = 0; shard_bits = 0; kind = volume }

-- x ^= x << 13; x ^= x >> 7; x ^= x << 17, of 64 bits
abbrev pub xorshift : ℕ → ℕ
xorshift x =
    let a = bit_xor x (x * 2 ^ 13 % 2 ^ 64) in
    let b = bit_xor a (a / 2 ^ 7) in
    bit_xor b (b * 2 ^ 17 % 2 ^ 64)
