use mathlib.Core.Path.{◌≡◌}
use lib.ListN.{length}
use Rattle.compressed_segmentation.proofs.block.Mild.{Passed}
use Rattle.compressed_segmentation.proofs.block.Visited.{Visiting}
use Rattle.compressed_segmentation.proofs.readable.blocks.blocks_refusal.Given as goal

abbrev pub invariant-loop-c : goal.invariant-loop-c
invariant-loop-c l = (length l.seen ≡ length l.initial.seen) × Passed l.chunk l.voxels.shape l.count l.c l.seen × Visiting l.chunk l.c l.seen
