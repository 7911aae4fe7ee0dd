-- The loop makes the key of the turns from i on.
use Rattle.morton.proofs.Turns.{Packed}
use Rattle.morton.proofs.steps.key.Given as goal

abbrev pub invariant-loop-i : goal.invariant-loop-i
invariant-loop-i l = Packed l.grid l.cell l.i l.k
