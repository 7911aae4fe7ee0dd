use Rattle.std.proofs.Common.{refl, arith}
use Rattle.shard.proofs.index.Tally.{tally-start, tally-place-fits, tally-turn}
use Rattle.lookup.proofs.entries.Entries.{listing-first, listing-next, listing-last, listing-length}
use Rattle.lookup.proofs.entries.put_entries.Goals as goal

pub loop-i-init : goal.loop-i-init
loop-i-init c = (tally-start _ _ _ _, refl, listing-first _ _ _ _ _)

pub overflow_add-base : goal.overflow_add-base
overflow_add-base c = search tally-place-fits

-- the three reads of entry i, then the entry put
pub loop-i-preserved : goal.loop-i-preserved
loop-i-preserved c =
    let v = c.loop-i.invariant in (
      tally-turn v.0 (omega arith) c.read_u64-id.ensures.0 refl c.read_u64.ensures.0 refl c.read_u64-size.ensures.0 refl,
      search listing-length,
      listing-next _ _ _ _ _ _ v.2 v.0 c.put_entry.ensures (omega arith) c.read_u64-id.ensures.0 refl c.read_u64.ensures.0 refl c.read_u64-size.ensures.0
          v.1 (omega arith),
    )

pub returns : goal.returns
returns c = search listing-last
