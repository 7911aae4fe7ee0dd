use Rattle.unlisted.proofs.Judging.{Passed}
use Rattle.unlisted.proofs.checked_walk.next_some.Given as goal

abbrev pub invariant-loop-j : goal.invariant-loop-j
invariant-loop-j l = Passed l.index l.m l.n l.j
