-- Which specifications were allowed before order 4: those with at most 12 minishard bits, of volumes, since there was no other kind. No code
-- uses this. It is kept to say that what was allowed then is allowed now and is answered as it was (RULES S9).
use Rattle.std.specs.Prelude.{ℕ, Bool, not, ◌||◌, ltb, eqb}
use Rattle.sharding.specs.declared.Sharding.{Sharding}
use Rattle.sharding.specs.Specification.{most_preshift, most_shard_bits, identity, murmur, volume, minishard_bits_of, shard_bits_of}

abbrev pub most_minishard_bits_before : ℕ
most_minishard_bits_before = 12

-- RULES S9
unfoldable pub allowed_before : Sharding → Bool
allowed_before spec =
    not
    (ltb most_preshift spec.preshift
    || (not (eqb spec.hash identity || eqb spec.hash murmur)
    || (ltb most_minishard_bits_before (minishard_bits_of spec) || (ltb most_shard_bits (shard_bits_of spec) || not (eqb spec.kind volume)))))
