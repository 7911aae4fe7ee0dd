use Rattle.std.proofs.Common.{rules}
use Rattle.endian.proofs.Ranges.{any_none}
use Rattle.duplicate_ids.proofs.ids.Ids.{sum-zero, id-sum, any-end, stands_hit, stands-turn}
use Rattle.duplicate_ids.proofs.ids.stands_before.Goals as goal

pub loop-j-init : goal.loop-j-init
loop-j-init c = (search sum-zero, search any_none)

-- entry j has it
pub returns-then-id-x : goal.returns-then-id-x
returns-then-id-x c = stands_hit _ _ _ _ c.next_id-id.ensures c.if-id-x.true (search rules)

-- it has another
pub loop-j-preserved : goal.loop-j-preserved
loop-j-preserved c =
    let at-id = c in
    let inv = at-id.loop-j.invariant.1 in
    (search id-sum, stands-turn _ _ _ inv at-id.next_id-id.ensures c.if-id-x.false)

pub returns : goal.returns
returns c = search any-end
