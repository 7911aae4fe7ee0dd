-- What is kept: the digits from p up to i write n.
use Rattle.info.proofs.numbers.Numbering.{Reading}
use Rattle.info.proofs.numbers.digits_from.Given as goal

abbrev pub invariant-loop-i : goal.invariant-loop-i
invariant-loop-i l = Reading l.s l.p l.n l.i
