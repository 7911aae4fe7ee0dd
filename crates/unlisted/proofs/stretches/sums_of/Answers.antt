use Rattle.std.proofs.Common.{refl}
use Rattle.unlisted.proofs.stretches.Stretches.{summing_first, summing_next, summing_last}
use Rattle.unlisted.proofs.stretches.sums_of.Goals as goal

pub loop-i-init : goal.loop-i-init
loop-i-init c = search summing_first

pub loop-i-preserved : goal.loop-i-preserved
loop-i-preserved c =
    summing_next _ _ _ c.loop-i.invariant c.loop-i-test.true c.read_u64.ensures.0 c.read_u64-sum-in-loop-i.ensures.0 c.joined-steps.ensures refl

pub returns : goal.returns
returns c = search summing_last
