use Rattle.bitmap.proofs.window.Windows.{Tally}
use Rattle.bitmap.proofs.window.open_count.Given as goal

abbrev pub invariant-loop-g : goal.invariant-loop-g
invariant-loop-g l = Tally l.map l.g l.total
