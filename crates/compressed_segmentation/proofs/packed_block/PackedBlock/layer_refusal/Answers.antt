use Rattle.compressed_segmentation.proofs.block.Greatest.{greatest-none, greatest_still}
use Rattle.compressed_segmentation.proofs.block.Mild.{layer_hit, layer_all}
use Rattle.compressed_segmentation.proofs.packed_block.PackedBlock.layer_refusal.Goals as goal

pub loop-v-init : goal.loop-v-init
loop-v-init c = greatest-none _

pub returns-then-k-gt0 : goal.returns-then-k-gt0
returns-then-k-gt0 c = search layer_hit

pub loop-v-preserved : goal.loop-v-preserved
loop-v-preserved c = search greatest_still

pub returns : goal.returns
returns c = search layer_all
