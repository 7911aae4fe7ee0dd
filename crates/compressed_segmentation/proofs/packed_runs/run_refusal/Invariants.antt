use Prim.Native.Nat.{◌*◌}
use mathlib.Core.Path.{◌≡◌}
use Rattle.compressed_segmentation.specs.Labels.{label_words}
use Rattle.compressed_segmentation.specs.block.Checks.{greatest, run_refusal}
use Rattle.compressed_segmentation.proofs.packed_runs.run_refusal.Given as goal

abbrev pub invariant-loop-u : goal.invariant-loop-u
invariant-loop-u l = 0 ≡ greatest (run_refusal l.chunk (label_words l.fn.block.wide) l.fn.block.start l.fn.block.first l.fn.block.second (l.fn.run.step * l.fn.run.high)) l.u
