-- Why a minishard cannot be taken of two copies of one shard, each of two parts: its shard index, and the data behind it.
use Rattle.std.specs.Prelude.{ℕ, not, ◌&&◌, List}
use Rattle.refusal.specs.Choice.{pick}
use Rattle.sharding.specs.declared.Sharding.{Sharding}
use Rattle.sharding.specs.Specification.{minishard_count_of}
use Rattle.shard.specs.declared.index.Fault.{Fault}
use Rattle.shard.specs.index.Tests.{fault, entry_place}
use Rattle.shard.specs.declared.ShardFault.{ShardFault}
use Rattle.shard.specs.Faults.{fault_of, first_fault}
use Rattle.repair.specs.same_listing.Alike.{alike}
use Rattle.repair.specs.form.Chosen.{sound_in}

-- minishard m: the fault of copy a where it is sound in neither; 32 where it is sound in both and they list different ids or bytes, at its entry in
-- the shard index; else none
unfoldable pub trouble_of : Sharding → ℕ → List ℕ → List ℕ → List ℕ → List ℕ → ℕ → Fault
trouble_of spec shard ia da ib db m =
    pick (sound_in spec shard ia da m)
    (pick (sound_in spec shard ib db m && not (alike spec ia da ib db m)) (fault 32 (entry_place m)) (fault 0 0))
    (pick (sound_in spec shard ib db m) (fault 0 0) (fault_of spec shard ia da m))

-- the first minishard, in number order, that cannot be taken
unfoldable pub first_trouble : Sharding → ℕ → List ℕ → List ℕ → List ℕ → List ℕ → ShardFault
first_trouble spec shard ia da ib db = first_fault (trouble_of spec shard ia da ib db) 0 (minishard_count_of spec)
