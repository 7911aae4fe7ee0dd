use Rattle.sheet.proofs.one_turn.Turning.{Turning}
use Rattle.sheet.proofs.add_all.Given as goal

abbrev pub invariant-loop-turns : goal.invariant-loop-turns
invariant-loop-turns l = Turning l._turns l.at
