use Rattle.lookup_table.proofs.Listed.{Writing}
use Rattle.lookup_table.proofs.filling.write_listed.Given as goal

abbrev pub invariant-loop-i : goal.invariant-loop-i
invariant-loop-i l = Writing l.base l.rows l.n l.initial.out l.out l.at l.cur l.i
