-- `locate::lines::cells::put_planned` meets its contract.
use Prim.Native.Nat.{◌+◌, ◌-◌, ◌*◌, ◌≤◌}
use mathlib.Core.Path.{◌≡◌}
use lib.ListN.{length}
use Rattle.endian.specs.Place.{paste}
use Rattle.locate.specs.lines.Lines.{line_in, line_room}
use Rattle.locate.specs.lines.Cells.{lines_by}
use Rattle.locate.proofs.lines.cells.put_planned.Given as goal

abbrev pub invariant-loop-i : goal.invariant-loop-i
invariant-loop-i l =
    (l.i ≤ l.n) × (l.at ≤ line_room * l.i) × (length l.out ≡ length l.initial.out)
    × (l.at + length (lines_by (line_in l.spec l.plan.grid) (l.n - l.i) l.cells (12 * l.i)) ≡ length (lines_by (line_in l.spec l.plan.grid) l.n l.cells 0))
    × (paste l.at (lines_by (line_in l.spec l.plan.grid) (l.n - l.i) l.cells (12 * l.i)) l.out ≡ paste 0 (lines_by (line_in l.spec l.plan.grid) l.n l.cells 0) l.initial.out)
