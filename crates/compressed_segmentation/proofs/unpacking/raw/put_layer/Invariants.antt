use Rattle.compressed_segmentation.specs.raw_form.Raw.{raw_row}
use Rattle.compressed_segmentation.specs.raw_form.Writing.{row_bytes}
use Rattle.compressed_segmentation.proofs.raw_form.Filled.{Filled}
use Rattle.compressed_segmentation.proofs.unpacking.raw.put_layer.Given as goal

abbrev pub invariant-loop-y : goal.invariant-loop-y
invariant-loop-y l = Filled (raw_row l.chunk l.shape l.c l.z) (row_bytes l.shape) l.y-end l.at l.initial.out l.y l.p l.out
