use Rattle.repair.specs.form.Chosen.{chosen}
use Rattle.repair.proofs.form.AllMinishards.{Writing}
use Rattle.repair.proofs.form.repair_all.Given as goal

abbrev pub invariant-loop-m : goal.invariant-loop-m
invariant-loop-m l = Writing (chosen l.spec l.shard l.ia l.da l.ib l.db) l.n l.initial.out l.out l.m l.p
