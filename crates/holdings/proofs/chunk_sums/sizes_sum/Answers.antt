use Rattle.holdings.proofs.chunk_sums.Counting.{sizing}
use Rattle.holdings.proofs.chunk_sums.sizes_sum.Goals as goal

pub loop-i-init : goal.loop-i-init
loop-i-init c = search sizing

pub loop-i-preserved : goal.loop-i-preserved
loop-i-preserved c = search sizing
