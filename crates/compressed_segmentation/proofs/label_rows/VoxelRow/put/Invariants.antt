use Prim.Native.Nat.{min}
use Prim.Native.Nat.{◌*◌}
use Rattle.compressed_segmentation.specs.raw_form.Raw.{raw_voxel, label_bytes}
use Rattle.compressed_segmentation.proofs.raw_form.Filled.{Filled}
use Rattle.compressed_segmentation.proofs.label_rows.VoxelRow.put.Given as goal

abbrev pub invariant-loop-i : goal.invariant-loop-i
invariant-loop-i l = Filled (raw_voxel l.self.chunk.now l.self.shape l.self.c l.self.z l.self.y) (label_bytes l.self.shape) l.self.shape.extents.x l.at l.initial.out (min l.self.shape.extents.x (l.self.shape.block.x * l.i)) l.p l.out
