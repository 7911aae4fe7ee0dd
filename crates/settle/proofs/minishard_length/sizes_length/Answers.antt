use Rattle.settle.proofs.minishard_length.Lengths.{adding}
use Rattle.settle.proofs.minishard_length.sizes_length.Goals as goal

pub loop-i-init : goal.loop-i-init
loop-i-init c = search adding

pub loop-i-preserved : goal.loop-i-preserved
loop-i-preserved c = search adding
