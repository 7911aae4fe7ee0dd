use Rattle.compressed_segmentation.proofs.block.Greatest.{greatest-none, greatest_still}
use Rattle.compressed_segmentation.proofs.block.Mild.{voxels_hit, voxels-all}
use Rattle.compressed_segmentation.proofs.packed_block.PackedBlock.voxels_refusal.Goals as goal

pub loop-w-init : goal.loop-w-init
loop-w-init c = greatest-none _

pub returns-then-k-gt0 : goal.returns-then-k-gt0
returns-then-k-gt0 c = search voxels_hit

pub loop-w-preserved : goal.loop-w-preserved
loop-w-preserved c = search greatest_still

pub returns : goal.returns
returns c = search voxels-all
