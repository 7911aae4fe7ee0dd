use mathlib.Core.Path.{◌≡◌}
use Rattle.compressed_segmentation.specs.Labels.{label_words}
use Rattle.compressed_segmentation.specs.block.Checks.{greatest, layer_refusal}
use Rattle.compressed_segmentation.proofs.packed_block.PackedBlock.voxels_refusal.Given as goal

abbrev pub invariant-loop-w : goal.invariant-loop-w
invariant-loop-w l = 0 ≡ greatest (layer_refusal l.self.chunk.now (label_words l.self.block.wide) l.self.block.start l.self.block.first l.self.block.second l.self.size l.self.inside) l.w
