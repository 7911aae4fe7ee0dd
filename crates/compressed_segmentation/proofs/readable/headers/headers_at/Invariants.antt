use mathlib.Core.Path.{◌≡◌}
use Rattle.compressed_segmentation.specs.block.Checks.{greatest, header_refusal}
use Rattle.compressed_segmentation.proofs.readable.headers.headers_at.Given as goal

abbrev pub invariant-loop-n : goal.invariant-loop-n
invariant-loop-n l = 0 ≡ greatest (header_refusal l.chunk l.o) l.n
