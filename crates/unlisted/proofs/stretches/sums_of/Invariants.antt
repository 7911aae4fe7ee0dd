use Rattle.shard.specs.index.Index as index
use Rattle.unlisted.proofs.stretches.Stretches.{Summing}
use Rattle.unlisted.proofs.stretches.sums_of.Given as goal

abbrev pub invariant-loop-i : goal.invariant-loop-i
invariant-loop-i l = Summing (index.start_steps l.data l.s l.n) (index.sizes l.data l.s l.n) l.k l.i l.steps l.sum
