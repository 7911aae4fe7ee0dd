-- What is kept: the k-th element from a on is the one as many elements on from i as are left to pass.
use Rattle.json_text.proofs.members.Items.{Reaching}
use Rattle.json_text.proofs.members.element_from.Given as goal

abbrev pub invariant-loop : goal.invariant-loop
invariant-loop l = Reaching l.s l.a l.k l.i l.counter
