use Rattle.shard.specs.index.Index as index
use Rattle.settle.proofs.minishard_length.Lengths.{Adding}
use Rattle.settle.proofs.minishard_length.sizes_length.Given as goal

abbrev pub invariant-loop-i : goal.invariant-loop-i
invariant-loop-i l = Adding (index.sizes l.data l.s l.n) l.n l.i l.sum
