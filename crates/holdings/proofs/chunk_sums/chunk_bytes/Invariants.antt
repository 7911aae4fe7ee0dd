use Rattle.holdings.specs.chunk_sums.Totals.{sizes_in}
use Rattle.holdings.proofs.chunk_sums.Counting.{Totalling}
use Rattle.holdings.proofs.chunk_sums.chunk_bytes.Given as goal

abbrev pub invariant-loop-m : goal.invariant-loop-m
invariant-loop-m l = Totalling (sizes_in l.index l.data) l.n l.m l.sum
