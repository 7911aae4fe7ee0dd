use Rattle.std.proofs.Common.{refl, arith}
use Rattle.settle.proofs.sorted.Filling.{fill_next, filling}
use Rattle.settle.proofs.sorted.put_rows.Goals as goal

pub loop-i-init : goal.loop-i-init
loop-i-init c = search filling

-- the three reads of entry i, then its row put
pub loop-i-preserved : goal.loop-i-preserved
loop-i-preserved c =
    let at-put = c in
    let at_size = at-put in
    let at-start = at_size in
    let at-id = at-start in
    fill_next at-id.loop-i.invariant (omega arith) at-id.read_u64-id.ensures.0 refl at-start.read_u64.ensures.0
    refl at_size.read_u64-size.ensures.0 refl at-put.put.ensures.n_after at-put.put.ensures.only

pub returns : goal.returns
returns c = record { n_after = search filling; only = search filling }
