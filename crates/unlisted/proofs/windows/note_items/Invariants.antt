use Rattle.std.proofs.Common.{length}
use Rattle.bitmap.specs.Positions.{after}
use Rattle.bitmap.specs.window.Window.{Notes}
use Rattle.unlisted.specs.ranges.Covered.{in_items}
use Rattle.unlisted.proofs.chunks.Steps.{Left}
use Rattle.unlisted.proofs.windows.note_items.Given as goal

abbrev pub invariant-loop-chunk : goal.invariant-loop-chunk
invariant-loop-chunk l = Left l.data l.s l.n l.n (length l.yielded) l.chunk-iterator × Notes l.initial.map l.map (after l.lo (in_items l.spec l.data l.s l.n (length l.yielded)))
