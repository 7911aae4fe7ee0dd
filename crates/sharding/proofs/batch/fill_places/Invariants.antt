-- The places of the ids from i on are left to write.
use Rattle.std.proofs.Common.{◌≡◌, map, drop}
use Rattle.endian.specs.Place.{paste}
use Rattle.sharding.specs.placement.Place.{shard_of, minishard_of}
use Rattle.sharding.proofs.batch.fill_places.Given as goal

abbrev pub invariant-loop-i : goal.invariant-loop-i
invariant-loop-i l = record {
  shards : paste l.i (map (shard_of l.spec) (drop l.i l.ids)) l.shards ≡ paste 0 (map (shard_of l.spec) l.ids) l.initial.shards;
  minishards : paste l.i (map (minishard_of l.spec) (drop l.i l.ids)) l.minishards ≡ paste 0 (map (minishard_of l.spec) l.ids) l.initial.minishards;
}
