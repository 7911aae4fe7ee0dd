use Rattle.bitmap.specs.Positions.{after}
use Rattle.bitmap.specs.window.Window.{Notes}
use Rattle.unlisted.specs.ranges.Covered.{covered_in}
use Rattle.unlisted.proofs.windows.note_all.Given as goal

abbrev pub invariant-loop-m : goal.invariant-loop-m
invariant-loop-m l = Notes l.initial.map l.map (after l.lo (covered_in l.spec l.index l.data l.m))
