use Rattle.shard.specs.index.Index as index
use Rattle.holdings.proofs.chunk_sums.Counting.{Adding}
use Rattle.holdings.proofs.chunk_sums.sizes_sum.Given as goal

abbrev pub invariant-loop-i : goal.invariant-loop-i
invariant-loop-i l = Adding (index.sizes l.data l.s l.n) l.n l.i l.sum
