-- The sharding specification, by the numbers of a card, in which the kind of a volume has no field, and which ones are allowed (RULES S1).
use Rattle.std.specs.Prelude.{ℕ, ◌^◌, ◌≤◌, ◌≡◌, Bool, not, ◌||◌, ◌⊎◌, ltb, leb, eqb}
use Rattle.sharding.specs.declared.Sharding.{Sharding}

-- the limits, named once
abbrev pub most_preshift : ℕ
most_preshift = 63

-- RULES S1; 12 before order 4
abbrev pub most_minishard_bits : ℕ
most_minishard_bits = 16

abbrev pub most_shard_bits : ℕ
most_shard_bits = 32

-- the two hashes, by their numbers in a card (RULES S1)
abbrev pub identity : ℕ
identity = 0

abbrev pub murmur : ℕ
murmur = 1

-- the two kinds, by their numbers at the border (RULES S1)
abbrev pub volume : ℕ
volume = 0

abbrev pub mesh : ℕ
mesh = 1

-- whether the chunks are manifests, with their fragments before them
abbrev pub is_mesh : Sharding → Bool
is_mesh spec = eqb spec.kind mesh

abbrev pub minishard_bits_of : Sharding → ℕ
minishard_bits_of spec = spec.minishard_bits

abbrev pub shard_bits_of : Sharding → ℕ
shard_bits_of spec = spec.shard_bits

-- refusal 1 does not hold: neither is the preshift too high, nor the hash another than the two, nor are there too many bits, nor is the kind
-- another than the two (RULES S1)
unfoldable pub allowed : Sharding → Bool
allowed spec =
    not
    (ltb most_preshift spec.preshift
    || (not (eqb spec.hash identity || eqb spec.hash murmur)
    || (ltb most_minishard_bits (minishard_bits_of spec)
    || (ltb most_shard_bits (shard_bits_of spec) || not (eqb spec.kind volume || eqb spec.kind mesh)))))

-- the same with its parts as facts
pub record Within (spec : Sharding) : Type 0 where
  pub preshift : spec.preshift ≤ most_preshift
  pub hash : (spec.hash ≡ identity) ⊎ (spec.hash ≡ murmur)
  pub minishard : minishard_bits_of spec ≤ most_minishard_bits
  pub shard : shard_bits_of spec ≤ most_shard_bits
  pub kind : (spec.kind ≡ volume) ⊎ (spec.kind ≡ mesh)

-- how many minishards a shard has, and how many shards there are (source 002, 'Sharding specification')
abbrev pub minishard_count_of : Sharding → ℕ
minishard_count_of spec = 2 ^ minishard_bits_of spec

abbrev pub shard_count_of : Sharding → ℕ
shard_count_of spec = 2 ^ shard_bits_of spec

-- refusal 5 of a shard number: it "is not below 2^shard_bits" (RULES S7)
abbrev pub no_such_shard : Sharding → ℕ → Bool
no_such_shard spec shard = leb (shard_count_of spec) shard

-- refusal 33 of a minishard number, this library's own: it is not below 2^minishard_bits (RULES L6)
abbrev pub no_such_minishard : Sharding → ℕ → Bool
no_such_minishard spec m = leb (minishard_count_of spec) m
