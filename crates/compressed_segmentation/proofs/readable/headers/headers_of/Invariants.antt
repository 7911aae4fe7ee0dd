use mathlib.Core.Path.{◌≡◌}
use lib.ListN.{length}
use Rattle.compressed_segmentation.proofs.readable.Offsets.{Walked}
use Rattle.compressed_segmentation.proofs.block.Visited.{Visiting}
use Rattle.compressed_segmentation.proofs.readable.headers.headers_of.Given as goal

abbrev pub invariant-loop-c : goal.invariant-loop-c
invariant-loop-c l = (length l.seen ≡ length l.initial.seen) × Walked l.chunk l.count l.n l.c l.worst l.seen × Visiting l.chunk l.c l.seen
