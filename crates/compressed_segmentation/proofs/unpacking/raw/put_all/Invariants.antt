use Rattle.compressed_segmentation.specs.raw_form.Raw.{raw_channel}
use Rattle.compressed_segmentation.specs.raw_form.Writing.{channel_bytes}
use Rattle.compressed_segmentation.proofs.raw_form.Filled.{Filled}
use Rattle.compressed_segmentation.proofs.unpacking.raw.put_all.Given as goal

abbrev pub invariant-loop-c : goal.invariant-loop-c
invariant-loop-c l = Filled (raw_channel l.chunk l.shape) (channel_bytes l.shape) l.c-end 0 l.initial.out l.c l.p l.out
