use Rattle.settle.proofs.writing.WriteWhole.{Settling}
use Rattle.settle.proofs.writing.settle_all.Given as goal

abbrev pub invariant-loop-m : goal.invariant-loop-m
invariant-loop-m l = Settling l.spec l.index l.data l.n l.initial.out l.out l.m l.p
