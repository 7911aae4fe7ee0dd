use Rattle.settle.proofs.length.Lengths.{Summing}
use Rattle.settle.proofs.length.length_of_all.Given as goal

abbrev pub invariant-loop-m : goal.invariant-loop-m
invariant-loop-m l = Summing l.spec l.index l.data l.n l.m l.sum
