use Rattle.std.proofs.Common.{refl, arith}
use Rattle.shard.proofs.index.Tally.{tally-start, tally-place-fits, tally-turn}
use Rattle.lookup.proofs.id_search.Seek.{seek_start, seek_hit, seek_turn, seek_end}
use Rattle.lookup.proofs.id_search.find.Goals as goal

pub loop-i-init : goal.loop-i-init
loop-i-init c = (tally-start _ _ _ _, seek_start _ _)

pub overflow_add-result : goal.overflow_add-result
overflow_add-result c = search tally-place-fits

-- entry i has the id: its start and size are the answer
pub returns-then-cur-id : goal.returns-then-cur-id
returns-then-cur-id c =
    let v = c.loop-i.invariant in
    seek_hit _ _ _ _ _ v.0 v.1 c.loop-i-test.true c.read_u64-cur.ensures.0 refl
    c.read_u64.ensures.0 refl c.read_u64-size.ensures.0 c.if-cur-id.true

-- it has another
pub loop-i-preserved : goal.loop-i-preserved
loop-i-preserved c =
    let v = c.loop-i.invariant in (
      tally-turn v.0 (omega arith) c.read_u64-cur.ensures.0 refl c.read_u64.ensures.0 refl c.read_u64-size.ensures.0 refl,
      seek_turn v.0 _ c.read_u64-cur.ensures.0 refl v.1 c.if-cur-id.false,
    )

pub returns : goal.returns
returns c = search seek_end
