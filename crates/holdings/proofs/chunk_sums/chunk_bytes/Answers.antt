use Rattle.holdings.proofs.chunk_sums.Counting.{totalling}
use Rattle.holdings.proofs.chunk_sums.chunk_bytes.Goals as goal

pub loop-m-init : goal.loop-m-init
loop-m-init c = search totalling

pub returns-then-sum-next : goal.returns-then-sum-next
returns-then-sum-next c = search totalling

pub loop-m-preserved : goal.loop-m-preserved
loop-m-preserved c = search totalling

pub returns : goal.returns
returns c = search totalling
