use Rattle.compressed_segmentation.specs.raw_form.Raw.{raw_layer}
use Rattle.compressed_segmentation.specs.raw_form.Writing.{layer_bytes}
use Rattle.compressed_segmentation.proofs.raw_form.Filled.{Filled}
use Rattle.compressed_segmentation.proofs.unpacking.raw.put_channel.Given as goal

abbrev pub invariant-loop-z : goal.invariant-loop-z
invariant-loop-z l = Filled (raw_layer l.chunk l.shape l.c) (layer_bytes l.shape) l.z-end l.at l.initial.out l.z l.p l.out
