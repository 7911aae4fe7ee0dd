use Rattle.holdings.proofs.chunk_sums.Counting.{chunks}
use Rattle.holdings.proofs.chunk_sums.chunk_count.Goals as goal

pub loop-m-init : goal.loop-m-init
loop-m-init c = search chunks

pub loop-m-preserved : goal.loop-m-preserved
loop-m-preserved c = search chunks
