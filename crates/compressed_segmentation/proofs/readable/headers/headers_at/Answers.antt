use Rattle.compressed_segmentation.proofs.block.Greatest.{greatest-none, greatest_still}
use Rattle.compressed_segmentation.proofs.readable.Offsets.{headers_hit}
use Rattle.compressed_segmentation.proofs.readable.headers.headers_at.Goals as goal

pub loop-n-init : goal.loop-n-init
loop-n-init c = greatest-none _

pub returns-then-k-gt0 : goal.returns-then-k-gt0
returns-then-k-gt0 c = search headers_hit

pub loop-n-preserved : goal.loop-n-preserved
loop-n-preserved c = search greatest_still
