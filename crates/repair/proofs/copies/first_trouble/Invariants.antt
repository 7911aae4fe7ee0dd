use Rattle.repair.specs.Trouble.{trouble_of}
use Rattle.repair.proofs.Troubles.{Looking}
use Rattle.repair.proofs.copies.first_trouble.Given as goal

abbrev pub invariant-loop-m : goal.invariant-loop-m
invariant-loop-m l = Looking (trouble_of l.spec l.shard l.ia l.da l.ib l.db) l.n l.m
