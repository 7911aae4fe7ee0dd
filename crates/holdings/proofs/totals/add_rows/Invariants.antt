use Rattle.holdings.proofs.totals.Passing.{Adding}
use Rattle.holdings.proofs.totals.add_rows.Given as goal

abbrev pub invariant-loop-i : goal.invariant-loop-i
invariant-loop-i l = Adding l.initial.totals l.rows l.totals l.i
