use Rattle.shard.specs.index.Index.{id_steps}
use Rattle.settle.proofs.as_it_stands.Climbing.{Climbing}
use Rattle.settle.proofs.as_it_stands.ids_rise.Given as goal

abbrev pub invariant-loop-i : goal.invariant-loop-i
invariant-loop-i l = Climbing (id_steps l.data l.s) l.n l.i l.id
