-- The sharding specification across the C border.
use Rattle.sharding.specs.declared.Sharding.{Sharding}
use Rattle.intake.specs.numbers.Numbers.{narrow}
use Rattle.coronagamba.specs.declared.numbers.CSharding.{CSharding}

-- the specification that C's five numbers are: the same numbers, but for those above 255, which a card's field cannot hold (RULES R7). They are
-- 255, which is refused with 1 in each field: `above-refused` of proofs/Specified.antt
unfoldable pub given_sharding : CSharding → Sharding
given_sharding given = record {
  preshift = narrow given.preshift;
  hash = narrow given.hash;
  minishard_bits = narrow given.minishard_bits;
  shard_bits = narrow given.shard_bits;
  kind = narrow given.kind;
}
