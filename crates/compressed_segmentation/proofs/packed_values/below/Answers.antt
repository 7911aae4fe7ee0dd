use Rattle.std.proofs.Common.{refl, arith}
use Rattle.compressed_segmentation.proofs.packed_values.Numbers.{below-none, below-some}
use Rattle.compressed_segmentation.proofs.packed_values.below.Goals as goal

pub returns-then-n-limit : goal.returns-then-n-limit
returns-then-n-limit c = below-some _ _ refl (omega arith)

pub returns-else-n-limit : goal.returns-else-n-limit
returns-else-n-limit c = below-none _ _ (omega arith)
