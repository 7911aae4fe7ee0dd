use Rattle.repair.specs.form.Chosen.{chosen}
use Rattle.repair.proofs.form.AllMinishards.{Summing}
use Rattle.repair.proofs.form.length_of_all.Given as goal

abbrev pub invariant-loop-m : goal.invariant-loop-m
invariant-loop-m l = Summing (chosen l.spec l.shard l.ia l.da l.ib l.db) l.n l.m l.sum
