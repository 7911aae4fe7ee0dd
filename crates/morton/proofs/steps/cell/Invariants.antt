-- The loop reads the turns below i.
use Rattle.morton.proofs.Turns.{Reading}
use Rattle.morton.proofs.steps.cell.Given as goal

abbrev pub invariant-loop-i : goal.invariant-loop-i
invariant-loop-i l = Reading l.grid l.key l.i l.k l.x l.y l.z
