use Prim.Native.Nat.{◌*◌}
use Rattle.compressed_segmentation.specs.Labels.{label_words}
use Rattle.compressed_segmentation.specs.raw_form.Writing.{run_voxel}
use Rattle.compressed_segmentation.proofs.raw_form.Filled.{Filled}
use Rattle.compressed_segmentation.proofs.label_runs.put_packed_run.Given as goal

abbrev pub invariant-loop-u : goal.invariant-loop-u
invariant-loop-u l = Filled (run_voxel l.chunk (label_words l.wide) l.fn.block.start l.fn.block.first l.fn.block.second l.fn.run.step l.fn.run.high) (4 * label_words l.wide) l.fn.run.count l.at l.initial.out l.u l.p l.out
