use Rattle.std.proofs.Common.{refl, arith, rules}
use Rattle.settle.proofs.minishard_length.Lengths.{lead-inside, lead-led, leading}
use Rattle.settle.proofs.minishard_length.leads_length.Goals as goal

pub loop-i-init : goal.loop-i-init
loop-i-init c = search leading

pub lead_length-lead-requires : goal.lead_length-lead-requires
lead_length-lead-requires c = let start = c in (
  lead-inside (search rules) start.loop-i.invariant (omega arith) _ _ _ start.read_u64.ensures.0 refl c.read_u64-size.ensures.0,
  lead-led (search rules) start.loop-i.invariant (omega arith) _ _ _ start.read_u64.ensures.0 refl c.read_u64-size.ensures.0 (search rules),
)

pub overflow_add-from : goal.overflow_add-from
overflow_add-from c = search leading

pub loop-i-preserved : goal.loop-i-preserved
loop-i-preserved c = search leading
