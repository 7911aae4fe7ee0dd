use mathlib.Core.Path.{◌≡◌}
use Rattle.compressed_segmentation.specs.block.Checks.{greatest, block_refusal}
use Rattle.compressed_segmentation.proofs.readable.blocks.channel_refusal.Given as goal

abbrev pub invariant-loop-n : goal.invariant-loop-n
invariant-loop-n l = 0 ≡ greatest (block_refusal l.chunk l.voxels.shape l.o) l.n
